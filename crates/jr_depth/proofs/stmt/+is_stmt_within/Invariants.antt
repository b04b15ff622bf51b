use Rattle.std.proofs.Common.{◌≡◌, ◌&&◌, drop}
use Rattle.jr_tree.specs.Mirror.Stmts as m
use Rattle.jr_depth.specs.Within as w
use Rattle.jr_depth.proofs.stmt.+is_stmt_within.Given as goal

abbrev pub invariant-are_stmts_within-loop-stmt : goal.invariant-are_stmts_within-loop-stmt
invariant-are_stmts_within-loop-stmt l = (l.within && w.stmts_within l.most (m.plain_stmts (drop l.stmt-index l.stmts))) ≡ w.stmts_within l.most (m.plain_stmts l.stmts)

abbrev pub invariant-are_groups_within-loop-group : goal.invariant-are_groups_within-loop-group
invariant-are_groups_within-loop-group l = (l.within && w.groups_within l.most (m.plain_groups (drop l.group-index l.groups))) ≡ w.groups_within l.most (m.plain_groups l.groups)

abbrev pub invariant-are_catches_within-loop-catch : goal.invariant-are_catches_within-loop-catch
invariant-are_catches_within-loop-catch l = (l.within && w.catches_within l.most (m.plain_catches (drop l.catch-index l.catches))) ≡ w.catches_within l.most (m.plain_catches l.catches)
