use Rattle.std.proofs.Common.{◌∙◌, refl, sym, ap, subst}
use Rattle.std.proofs.lemmas.Result.{IfOk-weaker}
use Rattle.jr_tree.specs.Rows.{name}
use Rattle.jr_spell.specs.Packaging.{IsNumber}
use Rattle.jr_spell.specs.Spellers.{rows_of, table_of, number_by}
use Rattle.jr_spell.proofs.BySuper.{super_field_found}
use Rattle.jr_spell.proofs.Named.{headed, number_is}
use Rattle.jr_spell.proofs.Shaped.{is_number_by}
use Rattle.jr_spell.proofs.speller.Speller.field_of_super.Goals as goal

pub returns : goal.returns
returns c = λ given whole sought. let s = c.args.self.now in let p = rows_of s in let t = table_of s in let r = c.args.reference.now in
    IfOk-weaker c.look_for.result _ _ (λ a h. super_field_found p t (headed s whole) given r.row r.name a (sought.name_is ∙ ap (number_by p r.row) sought.at_row.lock_is) h)
    (c.look_for.ensures t (name p r.name) (record { sight_is = whole.sight_is; placed = whole.placed; inside = sought.there; same = refl }) (λ needs. absurd needs)
    (number_is p r.name (subst (IsNumber p) (sym sought.name_is) (is_number_by p r.row r.lock sought.there sought.target_there))) refl)
