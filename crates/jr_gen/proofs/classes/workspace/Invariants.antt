use Rattle.std.proofs.Common.{◌≡◌}
use Rattle.jr_gen.specs.Workspace.{workspace_of}
use Rattle.jr_gen.proofs.classes.workspace.Given as goal

abbrev pub invariant-loop-number : goal.invariant-loop-number
invariant-loop-number l = l.files ≡ workspace_of l.number
