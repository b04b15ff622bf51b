use Rattle.std.proofs.Common.{◌≡◌, ◌++◌, drop}
use Rattle.jr_defs.specs.Referents.{entries}
use Rattle.jr_marks.specs.Places.{IsOrdered}
use Rattle.jr_weave.specs.Pieces.{pieces_from}
use Rattle.jr_weave.proofs.weave.push_pieces.Given as goal

abbrev pub invariant-loop-number : goal.invariant-loop-number
invariant-loop-number l = IsOrdered l.marks → l.all.items ++ pieces_from l.marks (entries l.table) l.spellings (drop l.number-index l.chosen) ≡ l.fn.all.items ++ pieces_from l.marks (entries l.table) l.spellings l.chosen
