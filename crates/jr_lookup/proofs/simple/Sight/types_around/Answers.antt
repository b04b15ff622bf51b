use Rattle.jr_lookup.proofs.simple.Sight.types_around.Goals as goal

pub returns : goal.returns
returns c = λ t world. c.members_around.ensures t world
