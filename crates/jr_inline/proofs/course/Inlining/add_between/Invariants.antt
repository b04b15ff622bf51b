use Rattle.std.proofs.Common.{◌≡◌, ◌<◌, ◌≤◌}
use Rattle.jr_inline.specs.Inlining.{plan_by, rows_to}
use Rattle.jr_inline.proofs.course.Inlining.add_between.Given as goal

abbrev pub invariant-loop-at : goal.invariant-loop-at
invariant-loop-at l = record {
  early : l.behind < l.first → l.at ≤ l.first;
  rows : record { draft = l.draft; first = l.kept } ≡ rows_to (plan_by l.self) l.first l.fn.draft l.at;
}
