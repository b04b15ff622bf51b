use Rattle.std.proofs.Common.{subst, IfOk, ap, sym, ◌∙◌, None}
use Rattle.jr_spelling_rules.specs.Candidates.{level_of}
use Rattle.jr_spell.specs.Shaping.{IsFirstOf, IsFitOf}
use Rattle.jr_spell.specs.Spellers.{rows_of, table_of}
use Rattle.jr_spell.proofs.ByObject.{both_is, no_level, no_class, level_within, declaring_within}
use Rattle.jr_spell.proofs.Tracing.{seen_of}
use Rattle.jr_spell.proofs.speller.Speller.on_cast_outer.Goals as goal

pub returns-in-Some-instance_level : goal.returns-in-Some-instance_level
returns-in-Some-instance_level c = λ given whole sought gives. let s = c.args.self.now in let p = rows_of s in let t = table_of s in let r = c.args.reference.now in
    let declares = c.declaring.ensures sought.at_row in let has = c.instance_level.ensures (seen_of whole) sought.at_row in
    subst (λ all. IfOk c.by_class.result (λ o. IsFirstOf s r.row all o)) (both_is p t given r.row c.declaring.result c.instance_level.result declares has c.in-Some.class c.in-Some-instance_level.level c.in-Some.is c.in-Some-instance_level.is)
    (c.by_class.ensures given whole sought gives (declaring_within p t r.row c.in-Some.class (sym declares ∙ c.in-Some.is))
    (sought.level_there c.in-Some-instance_level.level (ap level_of sought.at_row.lock_is ∙ level_within p t r.row c.in-Some-instance_level.level (sym has ∙ c.in-Some-instance_level.is))))

pub returns-in-None-instance_level : goal.returns-in-None-instance_level
returns-in-None-instance_level c = λ given whole sought gives. let s = c.args.self.now in let r = c.args.reference.now in
    subst (λ all. IsFirstOf s r.row all None)
    (no_level (rows_of s) (table_of s) given r.row c.declaring.result c.instance_level.result (c.declaring.ensures sought.at_row) (c.instance_level.ensures (seen_of whole) sought.at_row) c.in-Some.class c.in-Some.is c.in-None-instance_level.is) IsFitOf.none

pub returns-in-None : goal.returns-in-None
returns-in-None c = λ given whole sought gives. let s = c.args.self.now in let r = c.args.reference.now in
    subst (λ all. IsFirstOf s r.row all None) (no_class (rows_of s) (table_of s) given r.row c.declaring.result (c.declaring.ensures sought.at_row) c.in-None.is) IsFitOf.none
