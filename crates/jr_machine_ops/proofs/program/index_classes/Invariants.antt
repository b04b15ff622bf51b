use Rattle.std.proofs.Common.{◌≤◌, length, drop}
use Rattle.jr_machine_defs.specs.Classes.{class_among}
use Rattle.jr_machine_ops.specs.Indices.{class_of_decl, IsIndex}
use Rattle.jr_machine_ops.proofs.program.index_classes.Given as goal

abbrev pub invariant-loop-left : goal.invariant-loop-left
invariant-loop-left l = (l.left ≤ length l.classes) × IsIndex l.index (λ c. c.class.now) (λ d. class_among (drop l.left l.classes) (class_of_decl d))

abbrev pub decreases-loop-left : goal.decreases-loop-left
decreases-loop-left l = l.left
