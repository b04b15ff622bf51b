use Rattle.std.proofs.Common.{◌≡◌, length}
use Rattle.jr_core.specs.Mirror.{plain_groups}
use Rattle.jr_machine_defs.specs.Control.{cases_from}
use Rattle.jr_machine_exits.proofs.control.cases_from.Given as goal

abbrev pub invariant-loop-groups : goal.invariant-loop-groups
invariant-loop-groups l = cases_from l.value (plain_groups l.groups) ≡ cases_from l.value (plain_groups l.initial.groups)

abbrev pub decreases-loop-groups : goal.decreases-loop-groups
decreases-loop-groups l = length l.groups
