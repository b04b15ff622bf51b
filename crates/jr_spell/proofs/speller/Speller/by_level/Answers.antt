use Rattle.std.proofs.Common.{subst, IfOk, None}
use Rattle.jr_spell.specs.Shaping.{IsFirstOf, IsFitOf}
use Rattle.jr_spell.specs.Spellers.{rows_of, table_of}
use Rattle.jr_spell.proofs.ByObject.{added_some, added_none, by_level_some, by_level_none}
use Rattle.jr_spell.proofs.speller.Speller.by_level.Goals as goal

pub returns-in-Some : goal.returns-in-Some
returns-in-Some c = λ given a same whole sought gives lt. let s = c.args.self.now in let p = rows_of s in let t = table_of s in let r = c.args.reference.now in
    let q = added_some (c.in_ok-added.ensures whole lt sought.there) c.in-Some.outer c.in-Some.is in
    subst (λ all. IfOk c.by_both.result (λ o. IsFirstOf s r.row all o)) (by_level_some p t given r.row c.args.class c.args.level a q.0 q.1) (c.by_both.ensures given a q.0 same q.2 whole sought gives)

pub returns-in-None : goal.returns-in-None
returns-in-None c = λ given a same whole sought gives lt. let s = c.args.self.now in let r = c.args.reference.now in
    subst (λ all. IsFirstOf s r.row all None) (by_level_none (rows_of s) (table_of s) given r.row c.args.class c.args.level a (added_none (c.in_ok-added.ensures whole lt sought.there) c.in-None.is)) IsFitOf.none
