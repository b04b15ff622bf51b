use Rattle.std.proofs.Common.{subst, IfOk, None}
use Rattle.jr_spell.specs.Shaping.{IsFirstOf, IsFitOf}
use Rattle.jr_spell.specs.Spellers.{rows_of, table_of}
use Rattle.jr_spell.proofs.ByObject.{super_cast_some, super_cast_none}
use Rattle.jr_spell.proofs.Shaped.{given_of}
use Rattle.jr_spell.proofs.Tracing.{seen_of}
use Rattle.jr_spell.proofs.speller.Speller.super_fit.Goals as goal

pub returns-in-Some : goal.returns-in-Some
returns-in-Some c = λ given whole sought uncalled. let s = c.args.self.now in let r = c.args.reference.now in
    subst (λ all. IfOk c.on_cast_this.result (λ o. IsFirstOf s r.row all o)) (super_cast_some (rows_of s) (table_of s) given r.row c.instance_round.result (c.instance_round.ensures (seen_of whole)) _ c.in-Some.is)
    (c.on_cast_this.ensures given whole sought (given_of c.args.reference.now given uncalled))

pub returns-in-None : goal.returns-in-None
returns-in-None c = λ given whole sought uncalled. let s = c.args.self.now in let r = c.args.reference.now in
    subst (λ all. IsFirstOf s r.row all None) (super_cast_none (rows_of s) (table_of s) given r.row c.instance_round.result (c.instance_round.ensures (seen_of whole)) c.in-None.is) IsFitOf.none
