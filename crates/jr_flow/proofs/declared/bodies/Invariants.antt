use Rattle.std.proofs.Common.{◌≡◌}
use Rattle.jr_flow.specs.Bodies.{bodies_below}
use Rattle.jr_flow.proofs.declared.bodies.Given as goal

abbrev pub invariant-loop-at : goal.invariant-loop-at
invariant-loop-at l = l.all.items ≡ bodies_below l.rows l.at
