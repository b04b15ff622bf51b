use Rattle.std.proofs.Common.{rules, ap, sym, ◌∙◌}
use Rattle.jr_tree.specs.declared.tree.Expr.TheFolds.{the_lemmas}
use Rattle.jr_tree.specs.Mirror.Exprs as x
use Rattle.jr_tree.specs.Exprs as l
use Rattle.jr_tree.specs.declared.label.Label.TheVariants as is
use Rattle.jr_index.specs.Events as e
use Rattle.jr_index.proofs.Viewing.{call_seen, array_seen}
use Rattle.jr_index.proofs.Adding.{goes_on, adds_two, node, nothing, labelled, are, rest_is}
use Rattle.jr_index.proofs.expr.+add_expr.Goals as goal

pub add_expr-returns-in-Assign : goal.add_expr-returns-in-Assign
add_expr-returns-in-Assign n c = are (node c.begin.ensures (adds_two c.add_expr.ensures (adds_two c.pass.ensures c.add_expr-in-Assign.ensures)) c.close.ensures) (search (rules, the_lemmas))

pub add_expr-returns-in-Cond : goal.add_expr-returns-in-Cond
add_expr-returns-in-Cond n c = are (node c.begin-in-Cond.ensures (adds_two (adds_two c.add_expr-in-Cond.ensures (adds_two c.pass-in-Cond.ensures c.add_expr-in-Cond-2.ensures)) (adds_two c.pass-in-Cond-2.ensures c.add_expr-in-Cond-3.ensures)) c.close-in-Cond.ensures) (search (rules, the_lemmas))

pub add_expr-returns-in-Binary : goal.add_expr-returns-in-Binary
add_expr-returns-in-Binary n c = are (node c.begin-in-Binary.ensures (adds_two c.add_expr-in-Binary.ensures (adds_two c.pass-in-Binary.ensures c.add_expr-in-Binary-2.ensures)) c.close-in-Binary.ensures) (search (rules, the_lemmas))

pub add_expr-returns-in-IsA : goal.add_expr-returns-in-IsA
add_expr-returns-in-IsA n c = are (node c.begin-in-IsA.ensures (adds_two c.add_expr-in-IsA.ensures (adds_two c.pass-in-IsA.ensures c.add_type.ensures)) c.close-in-IsA.ensures) (search (rules, the_lemmas))

pub add_expr-returns-in-Unary : goal.add_expr-returns-in-Unary
add_expr-returns-in-Unary n c = are (node c.begin-in-Unary.ensures (adds_two c.pass-in-Unary.ensures c.add_expr-in-Unary.ensures) c.close-in-Unary.ensures) (search (rules, the_lemmas))

pub add_expr-returns-in-Cast : goal.add_expr-returns-in-Cast
add_expr-returns-in-Cast n c = are (node c.begin-in-Cast.ensures (adds_two (adds_two c.pass-in-Cast.ensures c.add_type-in-Cast.ensures) (adds_two c.pass-in-Cast-2.ensures c.add_expr-in-Cast.ensures)) c.close-in-Cast.ensures) (search (rules, the_lemmas))

pub add_expr-returns-in-PreStep : goal.add_expr-returns-in-PreStep
add_expr-returns-in-PreStep n c = are (node c.begin-in-PreStep.ensures (adds_two c.pass-in-PreStep.ensures c.add_expr-in-PreStep.ensures) c.close-in-PreStep.ensures) (search (rules, the_lemmas))

pub add_expr-returns-in-PostStep : goal.add_expr-returns-in-PostStep
add_expr-returns-in-PostStep n c = are (node c.begin-in-PostStep.ensures (adds_two c.add_expr-in-PostStep.ensures c.pass-in-PostStep.ensures) c.close-in-PostStep.ensures) (search (rules, the_lemmas))

pub add_expr-returns-in-Lit : goal.add_expr-returns-in-Lit
add_expr-returns-in-Lit n c = are c.add_literal.ensures (search (rules, the_lemmas))

pub add_expr-returns-in-This : goal.add_expr-returns-in-This
add_expr-returns-in-This n c = are c.add_this.ensures (search (rules, the_lemmas))

pub add_expr-returns-in-Paren : goal.add_expr-returns-in-Paren
add_expr-returns-in-Paren n c = are (node c.begin-in-Paren.ensures (adds_two (adds_two c.pass-in-Paren.ensures c.add_expr-in-Paren.ensures) c.pass-in-Paren-2.ensures) c.close-in-Paren.ensures) (search (rules, the_lemmas))

pub add_expr-returns-in-NameExpr : goal.add_expr-returns-in-NameExpr
add_expr-returns-in-NameExpr n c = are c.add_name.ensures (search (rules, the_lemmas))

pub add_expr-returns-in-Select : goal.add_expr-returns-in-Select
add_expr-returns-in-Select n c = are (node c.open.ensures (adds_two c.add_expr-in-Select.ensures (adds_two c.pass-in-Select.ensures c.own.ensures)) c.close-in-Select.ensures) (search (rules, the_lemmas))

pub add_expr-returns-in-SuperSelect : goal.add_expr-returns-in-SuperSelect
add_expr-returns-in-SuperSelect n c = are (adds_two c.open-in-SuperSelect.ensures (adds_two c.pass-in-SuperSelect.ensures (adds_two c.own-in-SuperSelect.ensures c.close-in-SuperSelect.ensures))) (search (rules, the_lemmas))

pub add_expr-returns-in-Index : goal.add_expr-returns-in-Index
add_expr-returns-in-Index n c = are (node c.begin-in-Index.ensures (adds_two (adds_two c.add_expr-in-Index.ensures (adds_two c.pass-in-Index.ensures c.add_expr-in-Index-2.ensures)) c.pass-in-Index-2.ensures) c.close-in-Index.ensures) (search (rules, the_lemmas))

pub add_expr-returns-in-Call : goal.add_expr-returns-in-Call
add_expr-returns-in-Call n c =
    let args = are c.add_args.ensures (ap (λ all. e.args_events (x.plain_exprs all)) c.as_slice.ensures) in
    are (node (labelled c.open-in-Call.ensures c.call_label.ensures) (adds_two c.add_any_receiver.ensures (adds_two c.own-in-Call.ensures args)) c.close-in-Call.ensures)
    (ap e.expr_events (sym (ap x.plain_expr c.in-Call.is ∙ call_seen c.in-Call.receiver c.in-Call.name c.in-Call.args)))

pub add_expr-returns-in-New : goal.add_expr-returns-in-New
add_expr-returns-in-New n c = are (node c.begin-in-New.ensures (adds_two (adds_two c.pass-in-New.ensures c.add_type_name.ensures) (adds_two c.own_last.ensures c.add_args-in-New.ensures)) c.close-in-New.ensures) (search (rules, the_lemmas))

pub add_expr-returns-in-NewArray : goal.add_expr-returns-in-NewArray
add_expr-returns-in-NewArray n c =
    let label = c.array_label.ensures ∙ ap (λ all. is.NewArray (l.primitive_of c.in-NewArray.base) (l.count (x.plain_exprs all)) c.in-NewArray.more) c.as_slice-in-NewArray.ensures in
    let lengths = are c.add_lengths.ensures (ap (λ all. e.lengths_events (x.plain_exprs all)) c.as_slice-in-NewArray-2.ensures) in
    are (node (labelled c.begin-in-NewArray.ensures label) (adds_two (adds_two (adds_two (adds_two c.pass-in-NewArray.ensures c.add_base.ensures) lengths) c.pass_brackets.ensures) c.add_any_list.ensures) c.close-in-NewArray.ensures)
    (ap e.expr_events (sym (ap x.plain_expr c.in-NewArray.is ∙ array_seen c.in-NewArray.base c.in-NewArray.dims c.in-NewArray.more c.in-NewArray.init)))

pub add_any_receiver-returns-in-None : goal.add_any_receiver-returns-in-None
add_any_receiver-returns-in-None n c = are nothing (search (rules, the_lemmas))

pub add_any_receiver-returns-in-Some : goal.add_any_receiver-returns-in-Some
add_any_receiver-returns-in-Some n c = are (adds_two c.add_receiver.ensures c.pass.ensures) (search (rules, the_lemmas))

pub add_receiver-returns-in-Of : goal.add_receiver-returns-in-Of
add_receiver-returns-in-Of n c = are c.add_expr.ensures (search (rules, the_lemmas))

pub add_receiver-returns-in-OfName : goal.add_receiver-returns-in-OfName
add_receiver-returns-in-OfName n c = are c.add_name.ensures (search (rules, the_lemmas))

pub add_receiver-returns-in-Super : goal.add_receiver-returns-in-Super
add_receiver-returns-in-Super n c = are c.pass.ensures (search (rules, the_lemmas))

pub add_exprs-loop-expr-preserved : goal.add_exprs-loop-expr-preserved
add_exprs-loop-expr-preserved n c = goes_on c.loop-expr.invariant (ap (λ xs. e.exprs_events c.loop-expr.commas (x.plain_exprs xs)) (rest_is c.args.exprs.now c.loop-expr.expr-index c.expr-item.result c.loop-expr-test.true c.expr-item.is)) (adds_two c.pass.ensures c.add_expr.ensures)

pub add_args-returns : goal.add_args-returns
add_args-returns n c = are (adds_two (adds_two c.pass.ensures c.add_exprs.ensures) c.pass-2.ensures) (search (rules, the_lemmas))

pub add_lengths-loop-size-preserved : goal.add_lengths-loop-size-preserved
add_lengths-loop-size-preserved n c = goes_on c.loop-size.invariant (ap (λ xs. e.lengths_events (x.plain_exprs xs)) (rest_is c.args.lengths.now c.loop-size.size-index c.size-item.result c.loop-size-test.true c.size-item.is)) (adds_two (adds_two c.pass.ensures c.add_expr.ensures) c.pass-in-loop-size.ensures)

pub add_any_list-returns-in-None : goal.add_any_list-returns-in-None
add_any_list-returns-in-None n c = are nothing (search (rules, the_lemmas))

pub add_any_list-returns-in-Some : goal.add_any_list-returns-in-Some
add_any_list-returns-in-Some n c = are c.add_list.ensures (search (rules, the_lemmas))

pub add_list-returns : goal.add_list-returns
add_list-returns n c = are (node c.begin.ensures (adds_two (adds_two c.pass.ensures c.add_inits.ensures) (adds_two c.pass_if.ensures c.pass-2.ensures)) c.close.ensures) (search (rules, the_lemmas))

pub add_init-returns-in-Value : goal.add_init-returns-in-Value
add_init-returns-in-Value n c = are (node c.begin.ensures c.add_expr.ensures c.close.ensures) (search (rules, the_lemmas))

pub add_init-returns-in-List : goal.add_init-returns-in-List
add_init-returns-in-List n c = are c.add_list.ensures (search (rules, the_lemmas))

pub add_inits-loop-init-preserved : goal.add_inits-loop-init-preserved
add_inits-loop-init-preserved n c = goes_on c.loop-init.invariant (ap (λ xs. e.inits_events c.loop-init.commas (x.plain_inits xs)) (rest_is c.args.inits.now c.loop-init.init-index c.init-item.result c.loop-init-test.true c.init-item.is)) (adds_two c.pass.ensures c.add_init.ensures)
