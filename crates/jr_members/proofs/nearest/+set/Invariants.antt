use Rattle.jr_members.proofs.nearest.+set.Given as goal

abbrev pub decreases-set : goal.decreases-set
decreases-set l = l.levels
