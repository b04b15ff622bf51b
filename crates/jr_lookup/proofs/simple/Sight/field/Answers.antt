use Rattle.std.proofs.Common.{refl, sym, ◌∙◌, ap, subst, None}
use Rattle.jr_tree.specs.declared.label.Sought.TheVariants as sought
use Rattle.jr_defs.specs.Constants.{HasConstantForm}
use Rattle.jr_defs.specs.Lookup.{Otherwise}
use Rattle.jr_lookup.specs.Behind.{length_of}
use Rattle.jr_lookup.proofs.Qualifying.{answer_else, Sought_at, all_fields, field_else}
use Rattle.jr_lookup.proofs.simple.Sight.field.Goals as goal

pub returns : goal.returns
returns c = λ t x o world h v number named. let p = c.args.self.now.world.under.rows.now in let places = c.args.self.now.world.under.places.now in let K = HasConstantForm p t in
    answer_else (Sought_at p t K x o sought.FieldOf) (λ a. Otherwise p t K o x sought.FieldOf a) c.in_ok-rows.rows.items None c.length_of.result _
    (all_fields p t K x o c.in_ok-rows.rows.items None (c.in_ok-rows.ensures t x o world h v number) refl)
    (subst (λ a. Otherwise p t K o x sought.FieldOf a) (sym (c.length_of.ensures ∙ ap (length_of c.args.left) named)) (field_else p t K x o places h v))
    c.answer.ensures
