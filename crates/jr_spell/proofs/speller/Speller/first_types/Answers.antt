use Rattle.std.proofs.Common.{◌≡◌, ◌+◌, arith, sym, subst, suc}
use Rattle.jr_plain.specs.Types.{parameters}
use Rattle.jr_supers.specs.Signatures.{AreSignatures}
use Rattle.jr_spell.specs.Spellers.{rows_of, table_of}
use Rattle.jr_spell.proofs.Casting.{first_start, first_next, first_lost, first_end}
use Rattle.jr_spell.proofs.speller.Speller.first_types.Goals as goal

pub loop-nth-init : goal.loop-nth-init
loop-nth-init c = λ whole can counted. first_start (parameters (rows_of c.args.self.now) (table_of c.args.self.now) c.args.target) _ c.new-all.ensures.items

pub loop-nth-preserved : goal.loop-nth-preserved
loop-nth-preserved c = λ whole can counted. let s = c.args.self.now in let p = rows_of s in let t = table_of s in
    first_next (parameters p t c.args.target) c.args.count c.loop-nth.nth _ c.loop-nth.all.items _ c.in-Some.ty counted (c.loop-nth.invariant whole can counted)
    (c.parameter.ensures p t (subst (λ s. AreSignatures p t s) (sym c.signatures-signatures.ensures) whole.sight_is.world.members_are.signatures_are) can) c.in-Some.is c.in_ok-push-in-Some.ensures.items (omega arith)

pub returns-in-None : goal.returns-in-None
returns-in-None c = λ whole can counted. let s = c.args.self.now in let p = rows_of s in let t = table_of s in
    absurd (first_lost (parameters p t c.args.target) c.args.count c.loop-nth.nth counted (omega arith)
    (c.parameter.ensures p t (subst (λ s. AreSignatures p t s) (sym c.signatures-signatures.ensures) whole.sight_is.world.members_are.signatures_are) can) c.in-None.is)

pub returns : goal.returns
returns c = λ whole can counted. first_end (parameters (rows_of c.args.self.now) (table_of c.args.self.now) c.args.target) c.args.count c.loop-nth.nth c.loop-nth.all.items counted (omega arith) (c.loop-nth.invariant whole can counted)
