use Rattle.jr_kept.proofs.dropped.all_held.Goals as goal

pub returns-clause-every : goal.returns-clause-every
returns-clause-every c = (c.put_held.ensures c.local_bound.result c.in_ok-set.ensures c.local_bound.ensures).0

pub returns-clause-only : goal.returns-clause-only
returns-clause-only c = (c.put_held.ensures c.local_bound.result c.in_ok-set.ensures c.local_bound.ensures).1
