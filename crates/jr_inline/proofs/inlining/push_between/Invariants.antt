use Rattle.std.proofs.Common.{◌≡◌, ◌<◌, ◌≤◌}
use Rattle.jr_marks.specs.Places.{IsOrdered}
use Rattle.jr_inline.specs.Inlining.{plan_by, uses_between}
use Rattle.jr_inline.proofs.inlining.push_between.Given as goal

abbrev pub invariant-loop-at : goal.invariant-loop-at
invariant-loop-at l = record {
  early : l.behind < l.first → l.at ≤ l.first;
  uses : IsOrdered l.marks → l.edits ≡ uses_between l.marks (plan_by l.inlining) l.first l.fn.edits l.at;
}
