use Rattle.std.proofs.Common.{◌≡◌, ◌&&◌, false, drop}
use Rattle.jr_tree.specs.Mirror.Stmts as m
use Rattle.jr_shape.specs.Stmts as t
use Rattle.jr_shape.proofs.stmt.+is_shaped_stmt.Given as goal

abbrev pub invariant-are_shaped_stmts-loop-stmt : goal.invariant-are_shaped_stmts-loop-stmt
invariant-are_shaped_stmts-loop-stmt l = (l.shaped && t.are_shaped_stmts (m.plain_stmts (drop l.stmt-index l.stmts))) ≡ t.are_shaped_stmts (m.plain_stmts l.stmts)

abbrev pub invariant-are_shaped_groups-loop-group : goal.invariant-are_shaped_groups-loop-group
invariant-are_shaped_groups-loop-group l = (l.shaped && t.are_shaped_groups l.bare (m.plain_groups (drop l.group-index l.groups))) ≡ t.are_shaped_groups false (m.plain_groups l.groups)

abbrev pub invariant-are_shaped_catches-loop-catch : goal.invariant-are_shaped_catches-loop-catch
invariant-are_shaped_catches-loop-catch l = (l.shaped && t.are_shaped_catches (m.plain_catches (drop l.catch-index l.catches))) ≡ t.are_shaped_catches (m.plain_catches l.catches)
