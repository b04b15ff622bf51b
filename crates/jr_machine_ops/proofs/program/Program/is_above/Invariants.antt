use Rattle.std.proofs.Common.{◌≡◌, ◌-◌}
use Rattle.jr_machine_defs.specs.Classes.{is_above}
use Rattle.jr_machine_ops.proofs.program.Program.is_above.Given as goal

abbrev pub invariant-loop-level : goal.invariant-loop-level
invariant-loop-level l = is_above l.self (l.levels - l.level) l.these l.high ≡ is_above l.self l.levels l.initial.these l.high
