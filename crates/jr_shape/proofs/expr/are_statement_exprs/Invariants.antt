use Rattle.std.proofs.Common.{◌≡◌, ◌&&◌, drop}
use Rattle.jr_tree.specs.Mirror.Exprs as m
use Rattle.jr_shape.specs.Exprs as t
use Rattle.jr_shape.proofs.expr.are_statement_exprs.Given as goal

abbrev pub invariant-loop-expr : goal.invariant-loop-expr
invariant-loop-expr l = (l.shaped && t.are_statement_exprs (m.plain_exprs (drop l.expr-index l.exprs))) ≡ t.are_statement_exprs (m.plain_exprs l.exprs)
