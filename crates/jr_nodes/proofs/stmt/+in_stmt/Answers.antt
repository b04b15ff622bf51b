-- A search over a node's parts is one over them joined; a turn of a loop passes one item.
use Rattle.std.proofs.Common.{◌∙◌, refl, rules, List}
use Rattle.std.proofs.lemmas.List.{append-nil}
use Rattle.jr_tree.specs.declared.tree.Catch.{Catch}
use Rattle.jr_tree.specs.declared.tree.Group.{Group}
use Rattle.jr_tree.specs.declared.tree.Stmt.{Stmt}
use Rattle.jr_tree.specs.declared.tree.Stmt.TheFolds.{the_lemmas}
use Rattle.jr_tree.specs.Mirror.Stmts as s
use Rattle.jr_tree.specs.Nodes as n
use Rattle.jr_nodes.proofs.Passing.{over_two, over_one_more}
use Rattle.jr_nodes.proofs.stmt.+in_stmt.Goals as goal

pub in_stmt-returns-in-Do : goal.in_stmt-returns-in-Do
in_stmt-returns-in-Do t c = search (rules, the_lemmas, over_two)

pub in_stmt-returns-in-While : goal.in_stmt-returns-in-While
in_stmt-returns-in-While t c = search (rules, the_lemmas, over_two)

pub in_stmt-returns-in-Some : goal.in_stmt-returns-in-Some
in_stmt-returns-in-Some t c = search (rules, the_lemmas, over_two)

pub in_stmt-returns-in-For : goal.in_stmt-returns-in-For
in_stmt-returns-in-For t c = search (rules, the_lemmas, over_two)

pub in_stmt-returns-in-Switch : goal.in_stmt-returns-in-Switch
in_stmt-returns-in-Switch t c = search (rules, the_lemmas, over_two)

pub in_stmt-returns-in-Some-last : goal.in_stmt-returns-in-Some-last
in_stmt-returns-in-Some-last t c = search (rules, the_lemmas, over_two)

pub in_stmt-returns-in-None : goal.in_stmt-returns-in-None
in_stmt-returns-in-None t c = search (rules, the_lemmas, append-nil, over_two)

pub in_stmt-returns-in-None-last : goal.in_stmt-returns-in-None-last
in_stmt-returns-in-None-last t c = search (rules, the_lemmas, append-nil, over_two)

pub in_group-returns : goal.in_group-returns
in_group-returns t c = search (rules, the_lemmas, over_two)

pub in_catch-returns : goal.in_catch-returns
in_catch-returns t c = search (rules, the_lemmas, over_two)

pub in_stmts-loop-stmt-preserved : goal.in_stmts-loop-stmt-preserved
in_stmts-loop-stmt-preserved t c =
    over_one_more (λ (items : List Stmt). n.stmts_nodes (s.plain_stmts items)) (λ (item : Stmt). n.stmt_nodes (s.plain_stmt item)) (λ item items. refl)
    c.args.stmts.now c.loop-stmt.stmt-index c.stmt-item.result c.loop-stmt-test.true c.stmt-item.is _ _ c.in_stmt-state.ensures ∙ c.loop-stmt.invariant

pub in_groups-loop-group-preserved : goal.in_groups-loop-group-preserved
in_groups-loop-group-preserved t c =
    over_one_more (λ (items : List Group). n.groups_nodes (s.plain_groups items)) (λ (item : Group). n.group_nodes (s.plain_group item)) (λ item items. refl)
    c.args.groups.now c.loop-group.group-index c.group-item.result c.loop-group-test.true c.group-item.is _ _ c.in_group-state.ensures ∙ c.loop-group.invariant

pub in_catches-loop-catch-preserved : goal.in_catches-loop-catch-preserved
in_catches-loop-catch-preserved t c =
    over_one_more (λ (items : List Catch). n.catches_nodes (s.plain_catches items)) (λ (item : Catch). n.catch_nodes (s.plain_catch item)) (λ item items. refl)
    c.args.catches.now c.loop-catch.catch-index c.catch-item.result c.loop-catch-test.true c.catch-item.is _ _ c.in_catch-state.ensures ∙ c.loop-catch.invariant
