use Rattle.std.proofs.Common.{◌≡◌, drop}
use Rattle.jr_tree.specs.Mirror.Exprs as x
use Rattle.jr_tree.specs.Nodes as n
use Rattle.jr_nodes.specs.Progress.{go_on, progress}
use Rattle.jr_nodes.proofs.expr.+in_expr.Given as goal

abbrev pub invariant-in_exprs-loop-expr : goal.invariant-in_exprs-loop-expr
invariant-in_exprs-loop-expr l = go_on (n.exprs_nodes (x.plain_exprs (drop l.expr-index l.exprs))) (progress l.state) ≡ go_on (n.exprs_nodes (x.plain_exprs l.exprs)) (progress l.initial.state)

abbrev pub invariant-in_inits-loop-init : goal.invariant-in_inits-loop-init
invariant-in_inits-loop-init l = go_on (n.inits_nodes (x.plain_inits (drop l.init-index l.inits))) (progress l.state) ≡ go_on (n.inits_nodes (x.plain_inits l.inits)) (progress l.initial.state)
