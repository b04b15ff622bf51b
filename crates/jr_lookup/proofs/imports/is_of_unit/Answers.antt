use Rattle.std.proofs.Common.{sym, ◌∙◌, ap, Some}
use Rattle.jr_places.specs.Packages.{same_some}
use Rattle.jr_lookup.proofs.imports.is_of_unit.Goals as goal

pub returns-in-Some : goal.returns-in-Some
returns-in-Some c = λ p places local. ap (λ o. same_some o (Some c.args.unit)) (sym c.in-Some.is ∙ c.unit.ensures.holds p places local)

pub returns-in-None : goal.returns-in-None
returns-in-None c = λ p places local. ap (λ o. same_some o (Some c.args.unit)) (sym c.in-None.is ∙ c.unit.ensures.holds p places local)
