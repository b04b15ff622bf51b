use Rattle.std.proofs.Common.{◌≡◌, drop}
use Rattle.jr_machine_defs.specs.Classes.{is_among}
use Rattle.jr_machine_ops.proofs.subtypes.is_among.Given as goal

abbrev pub invariant-loop-x : goal.invariant-loop-x
invariant-loop-x l = is_among (drop l.x-index l.these) l.id ≡ is_among l.these l.id
