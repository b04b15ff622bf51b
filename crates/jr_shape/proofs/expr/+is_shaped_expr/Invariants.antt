use Rattle.std.proofs.Common.{◌≡◌, ◌&&◌, drop}
use Rattle.jr_tree.specs.Mirror.Exprs as m
use Rattle.jr_shape.specs.Exprs as t
use Rattle.jr_shape.proofs.expr.+is_shaped_expr.Given as goal

abbrev pub invariant-are_shaped_exprs-loop-expr : goal.invariant-are_shaped_exprs-loop-expr
invariant-are_shaped_exprs-loop-expr l = (l.shaped && t.are_shaped_exprs (m.plain_exprs (drop l.expr-index l.exprs))) ≡ t.are_shaped_exprs (m.plain_exprs l.exprs)

abbrev pub invariant-are_shaped_inits-loop-init : goal.invariant-are_shaped_inits-loop-init
invariant-are_shaped_inits-loop-init l = (l.shaped && t.are_shaped_inits (m.plain_inits (drop l.init-index l.inits))) ≡ t.are_shaped_inits (m.plain_inits l.inits)
