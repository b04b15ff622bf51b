use Rattle.std.proofs.Common.{◌≡◌, drop}
use Rattle.jr_core.specs.Mirror.{plain_catches}
use Rattle.jr_machine_defs.specs.Control.{catch_for}
use Rattle.jr_machine_ops.proofs.program.Program.catch_for.Given as goal

abbrev pub invariant-loop-catch : goal.invariant-loop-catch
invariant-loop-catch l = catch_for l.self l.class (plain_catches (drop l.catch-index l.catches)) ≡ catch_for l.self l.class (plain_catches l.catches)
