use Rattle.std.proofs.Common.{◌∙◌, ap, ap₂, not, ◌||◌}
use Rattle.jr_places.specs.Packages.{same_some}
use Rattle.jr_lookup.proofs.simple.is_kept_beside.Goals as goal

pub returns : goal.returns
returns c = λ p placed. c.not_or.ensures ∙ ap (λ b. not c.args.has_imported || b)
    (c.are_one.ensures ∙ ap₂ same_some (c.unit-one.ensures.holds p placed.are placed.local) (c.unit-other.ensures.holds p placed.are placed.local))
