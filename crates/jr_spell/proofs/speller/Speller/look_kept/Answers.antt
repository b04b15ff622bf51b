use Rattle.std.proofs.Common.{sym, ◌∙◌, subst, refl, Some, IfOk}
use Rattle.jr_shapes.specs.declared.spelling.Shape.TheVariants as shape
use Rattle.jr_spell.specs.Shaping.{AreLooked}
use Rattle.jr_spell.specs.Spellers.{rows_of, table_of, types_of}
use Rattle.jr_spell.proofs.Formed.{by_names}
use Rattle.jr_spell.proofs.Shaped.{old_by_names, old_standing}
use Rattle.jr_spell.proofs.speller.Speller.look_kept.Goals as goal

pub returns-then-is_by_names : goal.returns-then-is_by_names
returns-then-is_by_names c = λ given whole sought gives exact. let s = c.args.self.now in let r = c.args.reference.now in
    let named = sym (by_names (rows_of s) (table_of s) r.row r.sought r.dot sought.at_row.sought_is sought.dot_is) ∙ sym c.is_by_names.ensures ∙ c.if-is_by_names.true in
    subst (λ all. IfOk c.look_kept_names.result (λ o. AreLooked s r.row shape.Kept o all)) (old_by_names (rows_of s) (table_of s) given r.row (types_of s) named) (c.look_kept_names.ensures given whole sought gives)

pub returns : goal.returns
returns c = λ given whole sought gives exact. let s = c.args.self.now in let r = c.args.reference.now in
    let unnamed = sym (by_names (rows_of s) (table_of s) r.row r.sought r.dot sought.at_row.sought_is sought.dot_is) ∙ sym c.is_by_names.ensures ∙ c.if-is_by_names.false in
    subst (AreLooked s r.row shape.Kept (Some c.in_ok-looked.looked)) (old_standing (rows_of s) (table_of s) given r.row (types_of s) unnamed)
    (AreLooked.some refl (c.in_ok-looked.ensures given whole sought gives (exact.typed unnamed)))
