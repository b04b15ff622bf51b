use Rattle.std.proofs.Common.{subst, IfOk}
use Rattle.jr_spell.specs.Shaping.{IsFirstOf}
use Rattle.jr_spell.specs.Spellers.{rows_of, table_of}
use Rattle.jr_spell.proofs.ByObject.{object_here, object_away}
use Rattle.jr_spell.proofs.Tracing.{seen_of}
use Rattle.jr_spell.proofs.speller.Speller.on_cast_object.Goals as goal

pub returns-in-Some : goal.returns-in-Some
returns-in-Some c = λ given whole sought gives. let s = c.args.self.now in let r = c.args.reference.now in
    subst (λ all. IfOk c.on_cast_this.result (λ o. IsFirstOf s r.row all o)) (object_here (rows_of s) (table_of s) given r.row c.innermost_level.result (c.innermost_level.ensures (seen_of whole) sought.at_row) _ c.in-Some.is)
    (c.on_cast_this.ensures given whole sought gives)

pub returns-in-None : goal.returns-in-None
returns-in-None c = λ given whole sought gives. let s = c.args.self.now in let r = c.args.reference.now in
    subst (λ all. IfOk c.on_cast_outer.result (λ o. IsFirstOf s r.row all o)) (object_away (rows_of s) (table_of s) given r.row c.innermost_level.result (c.innermost_level.ensures (seen_of whole) sought.at_row) c.in-None.is)
    (c.on_cast_outer.ensures given whole sought gives)
