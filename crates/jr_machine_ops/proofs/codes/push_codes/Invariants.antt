use Rattle.std.proofs.Common.{◌≡◌, ◌≤◌, ◌++◌, length, drop}
use Rattle.jr_core.specs.Mirror.{plain_codes}
use Rattle.jr_machine_defs.specs.Parts.{evals}
use Rattle.jr_machine_ops.proofs.codes.push_codes.Given as goal

abbrev pub invariant-loop-left : goal.invariant-loop-left
invariant-loop-left l = (l.left ≤ length l.codes) × (l.work ≡ evals (plain_codes (drop l.left l.codes)) ++ l.initial.work)

abbrev pub decreases-loop-left : goal.decreases-loop-left
decreases-loop-left l = l.left
