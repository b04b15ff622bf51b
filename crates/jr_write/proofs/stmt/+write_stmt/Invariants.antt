use Rattle.std.proofs.Common.{◌≡◌, ◌++◌, drop}
use Rattle.jr_tree.specs.Mirror.Stmts as m
use Rattle.jr_tree.specs.Tokens as e
use Rattle.jr_write.proofs.stmt.+write_stmt.Given as goal

abbrev pub invariant-write_stmts-loop-stmt : goal.invariant-write_stmts-loop-stmt
invariant-write_stmts-loop-stmt l = l.out.items ++ e.stmts_tokens (m.plain_stmts (drop l.stmt-index l.stmts)) ≡ l.initial.out.items ++ e.stmts_tokens (m.plain_stmts l.stmts)

abbrev pub invariant-write_groups-loop-group : goal.invariant-write_groups-loop-group
invariant-write_groups-loop-group l = l.out.items ++ e.groups_tokens (m.plain_groups (drop l.group-index l.groups)) ≡ l.initial.out.items ++ e.groups_tokens (m.plain_groups l.groups)

abbrev pub invariant-write_catches-loop-catch : goal.invariant-write_catches-loop-catch
invariant-write_catches-loop-catch l = l.out.items ++ e.catches_tokens (m.plain_catches (drop l.catch-index l.catches)) ≡ l.initial.out.items ++ e.catches_tokens (m.plain_catches l.catches)
