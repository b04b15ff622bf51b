use Rattle.std.proofs.Common.{drop}
use Rattle.jr_tree.specs.Mirror.Stmts as s
use Rattle.jr_index.specs.Events as e
use Rattle.jr_index.specs.Writing.{written, Leads}
use Rattle.jr_index.proofs.stmt.+add_stmt.Given as goal

abbrev pub invariant-add_stmts-loop-stmt : goal.invariant-add_stmts-loop-stmt
invariant-add_stmts-loop-stmt l = Leads (written l.initial.out) (written l.out) (e.stmts_events (s.plain_stmts (drop l.stmt-index l.stmts))) (e.stmts_events (s.plain_stmts (l.stmts)))

abbrev pub invariant-add_groups-loop-group : goal.invariant-add_groups-loop-group
invariant-add_groups-loop-group l = Leads (written l.initial.out) (written l.out) (e.groups_events (s.plain_groups (drop l.group-index l.groups))) (e.groups_events (s.plain_groups (l.groups)))

abbrev pub invariant-add_catches-loop-catch : goal.invariant-add_catches-loop-catch
invariant-add_catches-loop-catch l = Leads (written l.initial.out) (written l.out) (e.catches_events (s.plain_catches (drop l.catch-index l.catches))) (e.catches_events (s.plain_catches (l.catches)))
