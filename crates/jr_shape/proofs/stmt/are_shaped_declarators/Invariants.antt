use Rattle.std.proofs.Common.{◌≡◌, ◌&&◌, drop}
use Rattle.std.specs.List.{list_all}
use Rattle.jr_tree.specs.Mirror.Stmts as m
use Rattle.jr_shape.specs.Stmts as t
use Rattle.jr_shape.proofs.stmt.are_shaped_declarators.Given as goal

abbrev pub invariant-loop-declarator : goal.invariant-loop-declarator
invariant-loop-declarator l = (l.shaped && list_all t.is_shaped_declarator (m.plain_declarators (drop l.declarator-index l.declarators))) ≡ t.are_shaped_declarators (m.plain_declarators l.declarators)
