use Rattle.std.proofs.Common.{◌≡◌, drop}
use Rattle.jr_machine_defs.specs.Classes.{with_supers_of}
use Rattle.jr_machine_ops.proofs.program.Program.add_supers_of.Given as goal

abbrev pub invariant-loop-other : goal.invariant-loop-other
invariant-loop-other l = with_supers_of l.self l.these (drop l.other-index l.others) ≡ with_supers_of l.self l.initial.these l.others
