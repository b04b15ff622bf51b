use Rattle.std.proofs.Common.{◌≡◌}
use Rattle.jr_commit.specs.Entries.{plain}
use Rattle.jr_commit.specs.Steps.{sides_of}
use Rattle.jr_commit.specs.Journal.{old_sides}
use Rattle.jr_commit.proofs.recovery.steps_back.Given as goal

abbrev pub invariant-loop-entry : goal.invariant-loop-entry
invariant-loop-entry l = sides_of l.steps.items ≡ old_sides (plain l.yielded)
