use Rattle.std.proofs.Common.{◌≡◌, ◌&&◌, drop}
use Rattle.jr_tree.specs.Mirror.Exprs as m
use Rattle.jr_depth.specs.Within as w
use Rattle.jr_depth.proofs.expr.+is_expr_within.Given as goal

abbrev pub invariant-are_exprs_within-loop-expr : goal.invariant-are_exprs_within-loop-expr
invariant-are_exprs_within-loop-expr l = (l.within && w.exprs_within l.most (m.plain_exprs (drop l.expr-index l.exprs))) ≡ w.exprs_within l.most (m.plain_exprs l.exprs)

abbrev pub invariant-are_inits_within-loop-init : goal.invariant-are_inits_within-loop-init
invariant-are_inits_within-loop-init l = (l.within && w.inits_within l.most (m.plain_inits (drop l.init-index l.inits))) ≡ w.inits_within l.most (m.plain_inits l.inits)
