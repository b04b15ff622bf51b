use Rattle.jr_elab.proofs.bodies.creating.Goals as goal

pub returns : goal.returns
returns c = rw c.plain_type.ensures at c.callable.ensures
