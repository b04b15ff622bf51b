use Rattle.jr_lookup.proofs.simple.Sight.qualified_at.Goals as goal

pub returns : goal.returns
returns c = λ t x s needs number named. c.qualified.ensures t x c.args.place s.sight_is (c.left_of.ensures.before t s.sight_is s.same) (λ v. c.left_of.ensures.value t (needs v)) number named
