use Rattle.std.proofs.Common.{◌≤◌, length, drop, map}
use Rattle.jr_core.specs.Mirror.{plain_body}
use Rattle.jr_machine_defs.specs.Classes.{body_among}
use Rattle.jr_machine_ops.specs.Indices.{IsIndex}
use Rattle.jr_machine_ops.proofs.program.index_bodies.Given as goal

abbrev pub invariant-loop-left : goal.invariant-loop-left
invariant-loop-left l = (l.left ≤ length l.bodies) × IsIndex l.index (λ b. plain_body b.now) (body_among (map plain_body (drop l.left l.bodies)))

abbrev pub decreases-loop-left : goal.decreases-loop-left
decreases-loop-left l = l.left
