use Rattle.std.proofs.Common.{◌≡◌}
use Rattle.jr_runs.specs.Forms.{turned_last, turned_to}
use Rattle.jr_runs.specs.Marks.{seen}
use Rattle.jr_runs.proofs.turning.turned.Given as goal

abbrev pub invariant-loop-done : goal.invariant-loop-done
invariant-loop-done l = (l.next ≡ turned_last l.rows l.spellings (seen l.marks) l.done) × (l.back.items ≡ turned_to l.rows l.spellings (seen l.marks) l.done)
