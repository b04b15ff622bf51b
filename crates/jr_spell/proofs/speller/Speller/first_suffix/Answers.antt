use Rattle.std.proofs.Common.{◌≡◌, ◌∙◌, ◌+◌, ◌-◌, sym, ap, refl, arith, suc, option_map}
use Rattle.jr_spelling_rules.specs.Candidates.{suffix_from, name_length}
use Rattle.jr_spell.specs.Spellers.{rows_of, table_of}
use Rattle.jr_spell.proofs.Suffixed.{added_here, added_later, added_nowhere}
use Rattle.jr_spell.proofs.speller.Speller.first_suffix.Goals as goal

pub loop-more-init : goal.loop-more-init
loop-more-init c = λ whole lt inside. let p = rows_of c.args.self.now in let e : name_length p c.args.class ≡ name_length p c.args.class - 0 = omega arith in
    ap (suffix_from p (table_of c.args.self.now) c.args.place c.args.kind c.args.class 0) e

pub loop-more-preserved : goal.loop-more-preserved
loop-more-preserved c = λ whole lt inside. let p = rows_of c.args.self.now in let t = table_of c.args.self.now in let size = c.in_ok-count.ensures in let next : c.loop-more.more + 1 ≡ suc c.loop-more.more = omega arith in
    added_later p t c.args.place c.args.kind c.args.class _ c.loop-more.more (name_length p c.args.class) (c.loop-more.invariant whole lt inside) (omega arith)
    (ap (option_map (λ all. all.items)) (sym c.in-None.is) ∙ c.in_ok-traced.ensures c.loop-more.more next whole lt inside)

pub returns-in-Some : goal.returns-in-Some
returns-in-Some c = λ whole lt inside. let p = rows_of c.args.self.now in let t = table_of c.args.self.now in let size = c.in_ok-count.ensures in let next : c.loop-more.more + 1 ≡ suc c.loop-more.more = omega arith in
    added_here p t c.args.place c.args.kind c.args.class _ c.loop-more.more (name_length p c.args.class) _ (c.loop-more.invariant whole lt inside) (omega arith) refl
    (ap (option_map (λ all. all.items)) (sym c.in-Some.is) ∙ c.in_ok-traced.ensures c.loop-more.more next whole lt inside)

pub returns : goal.returns
returns c = λ whole lt inside. let p = rows_of c.args.self.now in let size = c.in_ok-count.ensures in
    added_nowhere p (table_of c.args.self.now) c.args.place c.args.kind c.args.class _ c.loop-more.more (name_length p c.args.class) (c.loop-more.invariant whole lt inside) (omega arith)
