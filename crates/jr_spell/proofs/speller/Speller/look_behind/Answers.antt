use Rattle.std.proofs.Common.{sym, ◌∙◌, ap, subst}
use Rattle.std.proofs.lemmas.Result.{IfOk-weaker}
use Rattle.jr_tree.specs.Rows.{name}
use Rattle.jr_spelling_rules.specs.Naming.{look_up}
use Rattle.jr_spell.specs.Packaging.{IsNumber}
use Rattle.jr_spell.specs.Spellers.{rows_of, table_of, number_by}
use Rattle.jr_spell.proofs.Called.{called_behind}
use Rattle.jr_spell.proofs.Shaped.{found_behind, is_number_by}
use Rattle.jr_spell.proofs.speller.Speller.look_behind.Goals as goal

pub returns-then-is_call : goal.returns-then-is_call
returns-then-is_call c = λ b given shape trace whole sought gives stands. let s = c.args.self.now in let p = rows_of s in let t = table_of s in let r = c.args.reference.now in
    let called = sym c.is_call.ensures ∙ c.if-is_call.true in
    IfOk-weaker c.named_method.result _ _ (λ a h. called_behind p t given r.row shape trace c.args.arguments.now (gives called) b r.sought r.name a sought.at_row.sought_is called
    (sought.name_is ∙ ap (number_by p r.row) sought.at_row.lock_is) h) (c.named_method.ensures b whole sought stands)

pub returns-else-is_call : goal.returns-else-is_call
returns-else-is_call c = λ b given shape trace whole sought gives stands. let s = c.args.self.now in let p = rows_of s in let t = table_of s in let r = c.args.reference.now in
    IfOk-weaker c.look_up.result _ _ (λ a h. found_behind p t given r.row shape trace b r.sought r.name a sought.at_row.sought_is (sym c.is_call.ensures ∙ c.if-is_call.false) (sought.name_is ∙ ap (number_by p r.row) sought.at_row.lock_is)
    (h ∙ ap (λ k. look_up p t r.row b k (name p r.name)) c.kind.ensures))
    (c.look_up.ensures b whole stands (subst (IsNumber p) (sym sought.name_is) (is_number_by p r.row r.lock sought.there sought.target_there)) sought.there)
