use Rattle.std.proofs.Common.{◌≡◌}
use Rattle.jr_assign.specs.Assigned.{guarded_from}
use Rattle.jr_assign.proofs.confirm.guarded_in.Given as goal

abbrev pub invariant-loop-inside : goal.invariant-loop-inside
invariant-loop-inside l = l.all.items ≡ guarded_from l.rows l.root l.inside
