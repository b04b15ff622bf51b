use Rattle.std.proofs.Common.{◌≡◌, ◌+◌, arith, subst, suc}
use Rattle.jr_spelling_rules.specs.Candidates as candidate
use Rattle.jr_spell.specs.Shaping.{IsFirstOf}
use Rattle.jr_spell.specs.Spellers.{rows_of, table_of}
use Rattle.jr_spell.proofs.Shaped.{from_start, from_later, from_here, from_end}
use Rattle.jr_spell.proofs.speller.Speller.first_end.Goals as goal

pub loop-more-init : goal.loop-more-init
loop-more-init c = λ given whole sought uncalled lt. let s = c.args.self.now in from_start s c.args.reference.now.row given c.args.class (candidate.name_length (rows_of s) c.args.class)

pub loop-more-preserved : goal.loop-more-preserved
loop-more-preserved c = λ given whole sought uncalled lt. let s = c.args.self.now in let r = c.args.reference.now in let size = c.in_ok-count.ensures in let next : c.loop-more.more + 1 ≡ suc c.loop-more.more = omega arith in
    from_later s r.row given c.args.class (candidate.name_length (rows_of s) c.args.class) c.loop-more.more (c.loop-more.invariant given whole sought uncalled lt) (omega arith)
    (c.in_ok-fit.ensures given c.loop-more.more next whole sought uncalled lt) c.in-None.is

pub returns-in-Some : goal.returns-in-Some
returns-in-Some c = λ given whole sought uncalled lt. let s = c.args.self.now in let r = c.args.reference.now in let size = c.in_ok-count.ensures in let next : c.loop-more.more + 1 ≡ suc c.loop-more.more = omega arith in
    from_here s r.row given c.args.class (candidate.name_length (rows_of s) c.args.class) c.loop-more.more c.in-Some.found (c.loop-more.invariant given whole sought uncalled lt) (omega arith)
    (subst (IsFirstOf s r.row (candidate.named (rows_of s) (table_of s) given r.row c.args.class c.loop-more.more)) c.in-Some.is (c.in_ok-fit.ensures given c.loop-more.more next whole sought uncalled lt))

pub returns : goal.returns
returns c = λ given whole sought uncalled lt. let s = c.args.self.now in let size = c.in_ok-count.ensures in
    from_end s c.args.reference.now.row given c.args.class (candidate.name_length (rows_of s) c.args.class) c.loop-more.more (c.loop-more.invariant given whole sought uncalled lt) (omega arith)
