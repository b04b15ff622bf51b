use Rattle.std.proofs.Common.{◌∙◌, sym, ap, subst}
use Rattle.std.proofs.lemmas.Result.{IfOk-weaker}
use Rattle.jr_spell.specs.Packaging.{IsNumber}
use Rattle.jr_spell.specs.Spellers.{rows_of, table_of, number_by}
use Rattle.jr_spell.proofs.ByObject.{object_found}
use Rattle.jr_spell.proofs.Called.{called_on}
use Rattle.jr_spell.proofs.Named.{headed}
use Rattle.jr_spell.proofs.Shaped.{is_number_by}
use Rattle.jr_spell.proofs.speller.Speller.member_of_class.Goals as goal

pub returns-then-is_call : goal.returns-then-is_call
returns-then-is_call c = λ given shape trace whole sought gives. let s = c.args.self.now in let p = rows_of s in let t = table_of s in let r = c.args.reference.now in
    let called = sym c.is_call.ensures ∙ c.if-is_call.true in
    IfOk-weaker c.method_of_class.result _ _ (λ a h. called_on p t given r.row shape trace c.args.arguments.now (gives called) (headed s whole) c.args.class r.sought r.name a sought.at_row.sought_is called
    (sought.name_is ∙ ap (number_by p r.row) sought.at_row.lock_is) h) (c.method_of_class.ensures whole sought)

pub returns-else-is_call : goal.returns-else-is_call
returns-else-is_call c = λ given shape trace whole sought gives. let s = c.args.self.now in let p = rows_of s in let t = table_of s in let r = c.args.reference.now in
    IfOk-weaker c.look_up_of.result _ _ (λ a h. object_found p t given r.row shape trace c.args.class r.sought r.name a sought.at_row.sought_is (sym c.is_call.ensures ∙ c.if-is_call.false)
    (sought.name_is ∙ ap (number_by p r.row) sought.at_row.lock_is) h)
    (c.look_up_of.ensures whole (subst (IsNumber p) (sym sought.name_is) (is_number_by p r.row r.lock sought.there sought.target_there)))
