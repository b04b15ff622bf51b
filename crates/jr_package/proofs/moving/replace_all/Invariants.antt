use Rattle.std.proofs.Common.{◌≡◌, drop}
use Rattle.jr_marks.specs.Places.{IsOrdered}
use Rattle.jr_package.specs.Repackaging.{replaced}
use Rattle.jr_package.proofs.moving.replace_all.Given as goal

abbrev pub invariant-loop-at : goal.invariant-loop-at
invariant-loop-at l = IsOrdered l.marks → replaced l.marks l.to (drop l.at-index l.imports) l.edits ≡ replaced l.marks l.to l.imports l.fn.edits
