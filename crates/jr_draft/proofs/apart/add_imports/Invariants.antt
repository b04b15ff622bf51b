use Rattle.std.proofs.Common.{◌≡◌, ◌++◌, ◌<◌}
use Rattle.jr_marks.specs.Places.{IsOrdered}
use Rattle.jr_plain.specs.Search.{gathered}
use Rattle.jr_draft.specs.Parting.{import_line}
use Rattle.jr_draft.proofs.apart.add_imports.Given as goal

abbrev pub invariant-loop-at : goal.invariant-loop-at
invariant-loop-at l = record {
  none : l.head.types < l.head.imports → l.out.items ≡ l.fn.out.items;
  lines : IsOrdered l.marks → l.out.items ≡ l.fn.out.items ++ gathered l.at (import_line l.marks l.head);
}
