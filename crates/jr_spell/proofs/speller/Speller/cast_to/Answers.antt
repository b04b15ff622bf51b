use Rattle.std.proofs.Common.{subst, IfOk}
use Rattle.jr_spell.specs.Spelling.{IsWritten}
use Rattle.jr_spell.proofs.Casting.{cast_empty, cast_more}
use Rattle.jr_spell.proofs.speller.Speller.cast_to.Goals as goal

pub returns-then-is_empty-clause-first : goal.returns-then-is_empty-clause-first
returns-then-is_empty-clause-first c = λ whole sought exact. cast_empty c.args.self.now c.args.reference.now.row c.args.parameters.now c.is_empty.result c.is_empty.ensures c.if-is_empty.true

pub returns-clause-first : goal.returns-clause-first
returns-clause-first c = λ whole sought exact. let s = c.args.self.now in let r = c.args.reference.now in
    subst (λ q. IfOk c.with_casts.result (λ o. IsWritten r.row o q)) (cast_more s r.row c.args.parameters.now c.is_empty.result c.is_empty.ensures c.if-is_empty.false) (c.with_casts.ensures.first whole sought exact)
