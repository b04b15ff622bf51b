use Rattle.std.proofs.Common.{rules, ap}
use Rattle.jr_tree.specs.declared.tree.Stmt.TheFolds.{the_lemmas}
use Rattle.jr_tree.specs.Mirror.Stmts as s
use Rattle.jr_index.specs.Events as e
use Rattle.jr_index.proofs.Adding.{goes_on, adds_two, node, nothing, are, rest_is}
use Rattle.jr_index.proofs.stmt.+add_stmt.Goals as goal

pub add_stmt-returns-in-Nest : goal.add_stmt-returns-in-Nest
add_stmt-returns-in-Nest n c = are (node c.begin.ensures c.add_block.ensures c.close.ensures) (search (rules, the_lemmas))

pub add_stmt-returns-in-Local : goal.add_stmt-returns-in-Local
add_stmt-returns-in-Local n c = are (node c.begin-in-Local.ensures (adds_two (adds_two (adds_two c.pass_if.ensures c.add_type.ensures) c.add_locals.ensures) c.pass.ensures) c.close-in-Local.ensures) (search (rules, the_lemmas))

pub add_stmt-returns-in-Skip : goal.add_stmt-returns-in-Skip
add_stmt-returns-in-Skip n c = are c.leaf.ensures (search (rules, the_lemmas))

pub add_stmt-returns-in-Do : goal.add_stmt-returns-in-Do
add_stmt-returns-in-Do n c = are (node c.begin-in-Do.ensures (adds_two (adds_two (adds_two c.pass-in-Do.ensures c.add_stmt.ensures) (adds_two c.pass-in-Do-2.ensures c.add_expr.ensures)) c.pass-in-Do-3.ensures) c.close-in-Do.ensures) (search (rules, the_lemmas))

pub add_stmt-returns-in-While : goal.add_stmt-returns-in-While
add_stmt-returns-in-While n c = are (node c.begin-in-While.ensures (adds_two (adds_two c.pass-in-While.ensures c.add_expr-in-While.ensures) (adds_two c.pass-in-While-2.ensures c.add_stmt-in-While.ensures)) c.close-in-While.ensures) (search (rules, the_lemmas))

pub add_stmt-returns-in-If : goal.add_stmt-returns-in-If
add_stmt-returns-in-If n c = are (node c.begin-in-If.ensures (adds_two (adds_two (adds_two c.pass-in-If.ensures c.add_expr-in-If.ensures) (adds_two c.pass-in-If-2.ensures c.add_stmt-in-If.ensures)) c.add_else.ensures) c.close-in-If.ensures) (search (rules, the_lemmas))

pub add_stmt-returns-in-Eval : goal.add_stmt-returns-in-Eval
add_stmt-returns-in-Eval n c = are (node c.begin-in-Eval.ensures (adds_two c.add_expr-in-Eval.ensures c.pass-in-Eval.ensures) c.close-in-Eval.ensures) (search (rules, the_lemmas))

pub add_stmt-returns-in-For : goal.add_stmt-returns-in-For
add_stmt-returns-in-For n c = are (node c.begin-in-For.ensures (adds_two (adds_two (adds_two (adds_two c.pass-in-For.ensures c.add_any_for.ensures) (adds_two c.pass-in-For-2.ensures c.add_any_expr.ensures)) (adds_two c.pass-in-For-3.ensures c.add_exprs.ensures)) (adds_two c.pass-in-For-4.ensures c.add_stmt-in-For.ensures)) c.close-in-For.ensures) (search (rules, the_lemmas))

pub add_stmt-returns-in-Switch : goal.add_stmt-returns-in-Switch
add_stmt-returns-in-Switch n c = are (node c.begin-in-Switch.ensures (adds_two (adds_two (adds_two c.pass-in-Switch.ensures c.add_expr-in-Switch.ensures) (adds_two c.pass-in-Switch-2.ensures c.add_groups.ensures)) c.pass-in-Switch-3.ensures) c.close-in-Switch.ensures) (search (rules, the_lemmas))

pub add_stmt-returns-in-Labeled : goal.add_stmt-returns-in-Labeled
add_stmt-returns-in-Labeled n c = are (node c.open.ensures (adds_two c.own.ensures (adds_two c.pass-in-Labeled.ensures c.add_stmt-in-Labeled.ensures)) c.close-in-Labeled.ensures) (search (rules, the_lemmas))

pub add_stmt-returns-in-Break : goal.add_stmt-returns-in-Break
add_stmt-returns-in-Break n c = are c.add_jump.ensures (search (rules, the_lemmas))

pub add_stmt-returns-in-Continue : goal.add_stmt-returns-in-Continue
add_stmt-returns-in-Continue n c = are c.add_jump-in-Continue.ensures (search (rules, the_lemmas))

pub add_stmt-returns-in-Return : goal.add_stmt-returns-in-Return
add_stmt-returns-in-Return n c = are (node c.begin-in-Return.ensures (adds_two (adds_two c.pass-in-Return.ensures c.add_any_expr-in-Return.ensures) c.pass-in-Return-2.ensures) c.close-in-Return.ensures) (search (rules, the_lemmas))

pub add_stmt-returns-in-Throw : goal.add_stmt-returns-in-Throw
add_stmt-returns-in-Throw n c = are (node c.begin-in-Throw.ensures (adds_two (adds_two c.pass-in-Throw.ensures c.add_expr-in-Throw.ensures) c.pass-in-Throw-2.ensures) c.close-in-Throw.ensures) (search (rules, the_lemmas))

pub add_stmt-returns-in-Try : goal.add_stmt-returns-in-Try
add_stmt-returns-in-Try n c = are (node c.begin-in-Try.ensures (adds_two (adds_two (adds_two c.pass-in-Try.ensures c.add_block-in-Try.ensures) c.add_catches.ensures) c.add_finally.ensures) c.close-in-Try.ensures) (search (rules, the_lemmas))

pub add_stmt-returns-in-CtorCall : goal.add_stmt-returns-in-CtorCall
add_stmt-returns-in-CtorCall n c = are (node c.begin-in-CtorCall.ensures (adds_two (adds_two c.own-in-CtorCall.ensures c.add_args.ensures) c.pass-in-CtorCall.ensures) c.close-in-CtorCall.ensures) (search (rules, the_lemmas))

pub add_else-returns-in-None : goal.add_else-returns-in-None
add_else-returns-in-None n c = are nothing (search (rules, the_lemmas))

pub add_else-returns-in-Some : goal.add_else-returns-in-Some
add_else-returns-in-Some n c = are (adds_two c.pass.ensures c.add_stmt.ensures) (search (rules, the_lemmas))

pub add_finally-returns-in-None : goal.add_finally-returns-in-None
add_finally-returns-in-None n c = are nothing (search (rules, the_lemmas))

pub add_finally-returns-in-Some : goal.add_finally-returns-in-Some
add_finally-returns-in-Some n c = are (adds_two c.pass.ensures c.add_block.ensures) (search (rules, the_lemmas))

pub add_block-returns : goal.add_block-returns
add_block-returns n c = are (node c.begin.ensures (adds_two (adds_two c.pass.ensures c.add_stmts.ensures) c.pass-2.ensures) c.close.ensures) (search (rules, the_lemmas))

pub add_stmts-loop-stmt-preserved : goal.add_stmts-loop-stmt-preserved
add_stmts-loop-stmt-preserved n c = goes_on c.loop-stmt.invariant (ap (λ xs. e.stmts_events (s.plain_stmts xs)) (rest_is c.args.stmts.now c.loop-stmt.stmt-index c.stmt-item.result c.loop-stmt-test.true c.stmt-item.is)) c.add_stmt.ensures

pub add_groups-loop-group-preserved : goal.add_groups-loop-group-preserved
add_groups-loop-group-preserved n c = goes_on c.loop-group.invariant (ap (λ xs. e.groups_events (s.plain_groups xs)) (rest_is c.args.groups.now c.loop-group.group-index c.group-item.result c.loop-group-test.true c.group-item.is)) c.add_group.ensures

pub add_group-returns : goal.add_group-returns
add_group-returns n c = are (node c.begin.ensures (adds_two c.add_cases.ensures c.add_stmts.ensures) c.close.ensures) (search (rules, the_lemmas))

pub add_catches-loop-catch-preserved : goal.add_catches-loop-catch-preserved
add_catches-loop-catch-preserved n c = goes_on c.loop-catch.invariant (ap (λ xs. e.catches_events (s.plain_catches xs)) (rest_is c.args.catches.now c.loop-catch.catch-index c.catch-item.result c.loop-catch-test.true c.catch-item.is)) c.add_catch.ensures

pub add_catch-returns : goal.add_catch-returns
add_catch-returns n c = are (node c.begin.ensures (adds_two (adds_two c.pass.ensures c.add_param.ensures) (adds_two c.pass-2.ensures c.add_block.ensures)) c.close.ensures) (search (rules, the_lemmas))
