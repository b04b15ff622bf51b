use Rattle.jr_kept.proofs.dropped.set_of.Goals as goal

pub returns-clause-only : goal.returns-clause-only
returns-clause-only c = (c.fill.ensures c.args.count c.in_ok-set.ensures).1

pub returns-clause-every : goal.returns-clause-every
returns-clause-every c = (c.fill.ensures c.args.count c.in_ok-set.ensures).2
