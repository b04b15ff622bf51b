use Rattle.std.proofs.Common.{◌≡◌, drop}
use Rattle.jr_machine_defs.specs.Control.{has_case}
use Rattle.jr_machine_exits.proofs.control.has_case.Given as goal

abbrev pub invariant-loop-label : goal.invariant-loop-label
invariant-loop-label l = has_case l.value (drop l.label-index l.labels) ≡ has_case l.value l.labels
