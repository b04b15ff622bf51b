use Rattle.std.proofs.Common.{◌≡◌, ◌-◌}
use Rattle.jr_commit.specs.Entries.{raw}
use Rattle.jr_commit.specs.Reading.{entries_at}
use Rattle.jr_commit.proofs.Loop.{with_front}
use Rattle.jr_commit.proofs.reading.entries.Given as goal

abbrev pub invariant-loop : goal.invariant-loop
invariant-loop l = with_front (raw l.entries.items) (entries_at l.version (l.count - l.counter) l.rest) ≡ entries_at l.version l.count l.bytes
