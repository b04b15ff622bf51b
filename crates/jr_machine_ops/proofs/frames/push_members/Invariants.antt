use Rattle.std.proofs.Common.{◌≡◌, ◌≤◌, ◌++◌, length, drop}
use Rattle.jr_machine_defs.specs.Initialization.{members_work}
use Rattle.jr_machine_ops.proofs.frames.push_members.Given as goal

abbrev pub invariant-loop-left : goal.invariant-loop-left
invariant-loop-left l = (l.left ≤ length l.members) × (l.work ≡ members_work l.program l.is_static (drop l.left l.members) ++ l.initial.work)

abbrev pub decreases-loop-left : goal.decreases-loop-left
decreases-loop-left l = l.left
