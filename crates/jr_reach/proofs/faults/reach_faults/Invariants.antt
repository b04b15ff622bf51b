use Rattle.std.proofs.Common.{◌≡◌, ◌++◌, length}
use Rattle.jr_reach.specs.Statements.{later}
use Rattle.jr_reach.specs.Reached.{earlier}
use Rattle.jr_reach.specs.Faults.{faults_below}
use Rattle.jr_reach.proofs.faults.reach_faults.Given as goal

abbrev pub invariant-loop-n : goal.invariant-loop-n
invariant-loop-n l = l.out.items ≡ l.fn.out.items ++ faults_below l.rows l.facts (later (length l.rows) l.all) (earlier l.found) l.n
