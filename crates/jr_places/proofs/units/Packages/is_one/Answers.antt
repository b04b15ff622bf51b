use Rattle.std.proofs.Common.{◌∙◌, ap₂}
use Rattle.jr_places.specs.Packages.{same_some}
use Rattle.jr_places.proofs.Packing.{same_is}
use Rattle.jr_places.proofs.units.Packages.is_one.Goals as goal

pub returns : goal.returns
returns c = λ p local h. c.is_same.ensures ∙ ap₂ same_some c.of_row.ensures c.of_row-2.ensures ∙ same_is p local c.args.self.now h c.args.one c.args.other
