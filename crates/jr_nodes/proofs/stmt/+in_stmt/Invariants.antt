use Rattle.std.proofs.Common.{◌≡◌, drop}
use Rattle.jr_tree.specs.Mirror.Stmts as s
use Rattle.jr_tree.specs.Nodes as n
use Rattle.jr_nodes.specs.Progress.{go_on, progress}
use Rattle.jr_nodes.proofs.stmt.+in_stmt.Given as goal

abbrev pub invariant-in_stmts-loop-stmt : goal.invariant-in_stmts-loop-stmt
invariant-in_stmts-loop-stmt l = go_on (n.stmts_nodes (s.plain_stmts (drop l.stmt-index l.stmts))) (progress l.state) ≡ go_on (n.stmts_nodes (s.plain_stmts l.stmts)) (progress l.initial.state)

abbrev pub invariant-in_groups-loop-group : goal.invariant-in_groups-loop-group
invariant-in_groups-loop-group l = go_on (n.groups_nodes (s.plain_groups (drop l.group-index l.groups))) (progress l.state) ≡ go_on (n.groups_nodes (s.plain_groups l.groups)) (progress l.initial.state)

abbrev pub invariant-in_catches-loop-catch : goal.invariant-in_catches-loop-catch
invariant-in_catches-loop-catch l = go_on (n.catches_nodes (s.plain_catches (drop l.catch-index l.catches))) (progress l.state) ≡ go_on (n.catches_nodes (s.plain_catches l.catches)) (progress l.initial.state)
