use Rattle.std.proofs.Common.{subst, IfOk, None}
use Rattle.jr_spell.specs.Shaping.{IsFirstOf, IsFitOf}
use Rattle.jr_spell.specs.Spellers.{rows_of, table_of}
use Rattle.jr_spell.proofs.ByObject.{added_some, added_none, by_type_some, by_type_none}
use Rattle.jr_spell.proofs.speller.Speller.by_type.Goals as goal

pub returns-in-Some : goal.returns-in-Some
returns-in-Some c = λ given whole sought gives lt. let s = c.args.self.now in let r = c.args.reference.now in let q = added_some (c.in_ok-added.ensures whole lt sought.there) _ c.in-Some.is in
    subst (λ all. IfOk c.behind_type.result (λ o. IsFirstOf s r.row all o)) (by_type_some (rows_of s) (table_of s) given r.row c.args.class _ q.0 q.1 q.2) (c.behind_type.ensures given whole sought gives)

pub returns-in-None : goal.returns-in-None
returns-in-None c = λ given whole sought gives lt. let s = c.args.self.now in let r = c.args.reference.now in
    subst (λ all. IsFirstOf s r.row all None) (by_type_none (rows_of s) (table_of s) given r.row c.args.class (added_none (c.in_ok-added.ensures whole lt sought.there) c.in-None.is)) IsFitOf.none
