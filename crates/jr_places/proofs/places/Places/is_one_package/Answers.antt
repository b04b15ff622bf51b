use Rattle.jr_places.proofs.places.Places.is_one_package.Goals as goal

pub returns : goal.returns
returns c = λ p places local named. c.is_one.ensures p local (places.packages_are local named)
