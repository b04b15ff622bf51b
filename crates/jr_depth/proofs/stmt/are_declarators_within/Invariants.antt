use Rattle.std.proofs.Common.{◌≡◌, ◌&&◌, drop}
use Rattle.std.specs.List.{list_all}
use Rattle.jr_tree.specs.Mirror.Stmts as m
use Rattle.jr_depth.specs.Within as w
use Rattle.jr_depth.proofs.stmt.are_declarators_within.Given as goal

abbrev pub invariant-loop-declarator : goal.invariant-loop-declarator
invariant-loop-declarator l = (l.within && list_all (w.declarator_within l.most) (m.plain_declarators (drop l.declarator-index l.declarators))) ≡ list_all (w.declarator_within l.most) (m.plain_declarators l.declarators)
