use Rattle.std.proofs.Common.{subst, IfOk}
use Rattle.jr_spell.specs.Spelling.{IsWritten}
use Rattle.jr_spell.proofs.Casting.{here_away, here_is}
use Rattle.jr_spell.proofs.speller.Speller.cast_here.Goals as goal

pub returns-then-is_prelude-clause-first : goal.returns-then-is_prelude-clause-first
returns-then-is_prelude-clause-first c = λ whole sought exact. here_away c.args.self.now c.args.reference.now.row c.is_prelude.result c.is_prelude.ensures c.if-is_prelude.true

pub returns-clause-first : goal.returns-clause-first
returns-clause-first c = λ whole sought exact. let s = c.args.self.now in let r = c.args.reference.now in
    subst (λ q. IfOk c.cast.result (λ o. IsWritten r.row o q)) (here_is s r.row c.is_prelude.result c.is_prelude.ensures c.if-is_prelude.false) (c.cast.ensures.first whole sought exact)
