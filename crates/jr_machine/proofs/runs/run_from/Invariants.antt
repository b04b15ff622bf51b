use Rattle.jr_machine.proofs.Running.{IsOnTheWay}
use Rattle.jr_machine.proofs.runs.run_from.Given as goal

abbrev pub invariant-loop-i : goal.invariant-loop-i
invariant-loop-i l = IsOnTheWay l.program l.initial.state l.n l.i l.state
