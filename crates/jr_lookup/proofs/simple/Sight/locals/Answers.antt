use Rattle.jr_lookup.proofs.simple.Sight.locals.Goals as goal

pub returns : goal.returns
returns c = λ t x world are placed lt number. c.locals.ensures.visible t x world.seen.placed.local placed are lt number
