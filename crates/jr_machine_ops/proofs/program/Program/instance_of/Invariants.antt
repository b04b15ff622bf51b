use Rattle.std.proofs.Common.{◌≡◌, ◌-◌, Some}
use Rattle.jr_machine_defs.specs.Control.{instance_at}
use Rattle.jr_machine_ops.proofs.program.Program.instance_of.Given as goal

abbrev pub invariant-loop-level : goal.invariant-loop-level
invariant-loop-level l = instance_at l.self l.heap (l.levels - l.level) l.class (Some l.current) (Some l.object) ≡ instance_at l.self l.heap l.levels l.class (Some l.initial.current) (Some l.initial.object)
