-- A search over a node's parts is one over them joined; a turn of a loop passes one item.
use Rattle.std.proofs.Common.{◌∙◌, refl, rules, List}
use Rattle.jr_tree.specs.declared.tree.Expr.{Expr}
use Rattle.jr_tree.specs.declared.tree.Init.{Init}
use Rattle.jr_tree.specs.declared.tree.Expr.TheFolds.{the_lemmas}
use Rattle.jr_tree.specs.Mirror.Exprs as x
use Rattle.jr_tree.specs.Nodes as n
use Rattle.jr_nodes.proofs.Passing.{over_two, over_one_more}
use Rattle.jr_nodes.proofs.expr.+in_expr.Goals as goal

pub in_expr-returns-in-Assign : goal.in_expr-returns-in-Assign
in_expr-returns-in-Assign t c = search (rules, the_lemmas, over_two)

pub in_expr-returns-in-Cond : goal.in_expr-returns-in-Cond
in_expr-returns-in-Cond t c = search (rules, the_lemmas, over_two)

pub in_expr-returns-in-Binary : goal.in_expr-returns-in-Binary
in_expr-returns-in-Binary t c = search (rules, the_lemmas, over_two)

pub in_expr-returns-in-IsA : goal.in_expr-returns-in-IsA
in_expr-returns-in-IsA t c = search (rules, the_lemmas, over_two)

pub in_expr-returns-in-Index : goal.in_expr-returns-in-Index
in_expr-returns-in-Index t c = search (rules, the_lemmas, over_two)

pub in_expr-returns-in-Some : goal.in_expr-returns-in-Some
in_expr-returns-in-Some t c = search (rules, the_lemmas, over_two)

pub in_expr-returns-in-Some-init : goal.in_expr-returns-in-Some-init
in_expr-returns-in-Some-init t c = search (rules, the_lemmas, over_two)

pub in_exprs-loop-expr-preserved : goal.in_exprs-loop-expr-preserved
in_exprs-loop-expr-preserved t c =
    over_one_more (λ (items : List Expr). n.exprs_nodes (x.plain_exprs items)) (λ (item : Expr). n.expr_nodes (x.plain_expr item)) (λ item items. refl)
    c.args.exprs.now c.loop-expr.expr-index c.expr-item.result c.loop-expr-test.true c.expr-item.is _ _ c.in_expr-state.ensures ∙ c.loop-expr.invariant

pub in_inits-loop-init-preserved : goal.in_inits-loop-init-preserved
in_inits-loop-init-preserved t c =
    over_one_more (λ (items : List Init). n.inits_nodes (x.plain_inits items)) (λ (item : Init). n.init_nodes (x.plain_init item)) (λ item items. refl)
    c.args.inits.now c.loop-init.init-index c.init-item.result c.loop-init-test.true c.init-item.is _ _ c.in_init-state.ensures ∙ c.loop-init.invariant
