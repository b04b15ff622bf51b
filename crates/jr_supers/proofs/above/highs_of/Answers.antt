use Rattle.jr_supers.proofs.above.highs_of.Goals as goal

pub returns : goal.returns
returns c = rw (c.deref.ensures.value, c.in_ok-others.ensures) at c.all_above.ensures
