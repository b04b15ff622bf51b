use Rattle.jr_bind.proofs.binder.cycle_of.Goals as goal

pub returns : goal.returns
returns c = c.first_on_cycle.ensures
