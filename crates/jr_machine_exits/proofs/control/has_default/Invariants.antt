use Rattle.std.proofs.Common.{◌≡◌, drop}
use Rattle.jr_machine_defs.specs.Control.{has_default}
use Rattle.jr_machine_exits.proofs.control.has_default.Given as goal

abbrev pub invariant-loop-label : goal.invariant-loop-label
invariant-loop-label l = has_default (drop l.label-index l.labels) ≡ has_default l.labels
