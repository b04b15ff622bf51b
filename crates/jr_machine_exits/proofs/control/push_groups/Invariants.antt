use Rattle.std.proofs.Common.{◌≡◌, ◌≤◌, ◌++◌, length, drop}
use Rattle.jr_core.specs.Mirror.{plain_groups}
use Rattle.jr_machine_defs.specs.Control.{groups_work}
use Rattle.jr_machine_exits.proofs.control.push_groups.Given as goal

abbrev pub invariant-loop-left : goal.invariant-loop-left
invariant-loop-left l = (l.left ≤ length l.groups) × (l.stack ≡ groups_work (plain_groups (drop l.left l.groups)) ++ l.initial.stack)

abbrev pub decreases-loop-left : goal.decreases-loop-left
decreases-loop-left l = l.left
