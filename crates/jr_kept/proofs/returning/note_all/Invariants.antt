use Rattle.std.proofs.Common.{◌⊎◌, ℕ, ◌≤◌}
use Rattle.jr_places.specs.Stamps.{IsEmptied}
use Rattle.jr_kept.specs.Named.{origin_in}
use Rattle.jr_kept.specs.Returned.{NotesTo}
use Rattle.jr_kept.proofs.returning.note_all.Given as goal

abbrev pub invariant-loop-copy : goal.invariant-loop-copy
invariant-loop-copy l = ((l.copy ≤ l.first) ⊎ (l.copy ≤ l.end)) × ((bound : ℕ) → IsEmptied l.fn.moved bound → NotesTo l.names.rows.now l.names.body bound (origin_in l.origin) l.first l.copy l.moved)
