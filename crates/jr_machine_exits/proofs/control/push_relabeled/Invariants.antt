use Rattle.std.proofs.Common.{◌≡◌}
use Rattle.jr_core.specs.Mirror.{plain_code}
use Rattle.jr_machine_defs.specs.Control.{relabeled}
use Rattle.jr_machine_exits.proofs.control.push_relabeled.Given as goal

abbrev pub invariant-loop-code : goal.invariant-loop-code
invariant-loop-code l = relabeled (plain_code l.code) l.stack ≡ relabeled (plain_code l.initial.code) l.initial.stack
