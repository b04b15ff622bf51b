use Rattle.std.proofs.Common.{◌∙◌, ap₂}
use Rattle.jr_places.specs.Packages.{same_some}
use Rattle.jr_places.proofs.Topping.{one_top_is}
use Rattle.jr_places.proofs.places.Places.is_one_top.Goals as goal

pub returns : goal.returns
returns c = λ p places tree local. c.are_one.ensures ∙ ap₂ same_some c.top.ensures.table c.top-2.ensures.table ∙ one_top_is p tree local c.args.self.now.tops.items places.tops_are c.args.one c.args.other
