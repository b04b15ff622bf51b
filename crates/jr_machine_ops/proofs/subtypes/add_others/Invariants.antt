use Rattle.std.proofs.Common.{◌≡◌, drop}
use Rattle.jr_machine_defs.specs.Classes.{with_others}
use Rattle.jr_machine_ops.proofs.subtypes.add_others.Given as goal

abbrev pub invariant-loop-other : goal.invariant-loop-other
invariant-loop-other l = with_others l.these (drop l.other-index l.others) ≡ with_others l.initial.these l.others
