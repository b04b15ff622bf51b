use Rattle.std.proofs.Common.{◌∙◌, ap, ap₂, sym, ℕ, Option, Some}
use Rattle.jr_base.specs.declared.token.Place.{Place}
use Rattle.jr_inline.specs.Retyping.{earlier, first_of}
use Rattle.jr_inline.proofs.retyped.first_of.Goals as goal

pub returns-in-Some : goal.returns-in-Some
returns-in-Some c = λ ordered. ap Some (c.earlier.ensures ∙ ap₂ (λ (place other : Place). earlier c.in-Some.known place c.args.row other) (c.name_place.ensures ordered) (c.name_place-in-Some.ensures ordered))
    ∙ sym (ap (λ (first : Option ℕ). first_of c.args.marks.now first c.args.row) c.in-Some.is)
