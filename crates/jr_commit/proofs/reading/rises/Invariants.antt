use Rattle.std.proofs.Common.{length}
use Rattle.std.specs.Prelude.{◌↔◌}
use Rattle.jr_commit.specs.Entries.{raw, names_of}
use Rattle.jr_commit.specs.Journal.{IsRising}
use Rattle.jr_commit.proofs.reading.rises.Given as goal

abbrev pub invariant-loop-rest : goal.invariant-loop-rest
invariant-loop-rest l = IsRising (names_of (raw l.rest)) ↔ IsRising (names_of (raw l.entries))

abbrev pub decreases-loop-rest : goal.decreases-loop-rest
decreases-loop-rest l = length l.rest
