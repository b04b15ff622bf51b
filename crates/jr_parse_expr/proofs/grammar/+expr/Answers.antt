use Rattle.std.proofs.Common.{arith, ◌≡◌, ◌∙◌, sym, ap, subst, Bool, cond}
use Rattle.jr_parse_laws.specs.declared.fault.Fault.TheVariants.{NoTree, TooDeep}
use Rattle.jr_parse_laws.specs.Parsers.{Outcome, Fails, kinds}
use Rattle.jr_tree.specs.Mirror.Exprs as x
use Rattle.jr_parse_starts.specs.Starts.{starts_expr, starts_list}
use Rattle.jr_parse_expr.specs.Views.{plain_lead}
use Rattle.jr_parse_expr.proofs.Rooms.{expr_lowest, expr_below, list_lowest, list_below, lowest_fails}
use Rattle.jr_parse_expr.proofs.grammar.+expr.Goals as goal

pub nested_expr-returns-then-room-eq0-clause-reads : goal.nested_expr-returns-then-room-eq0-clause-reads
nested_expr-returns-then-room-eq0-clause-reads t c =
    subst (λ (o : Outcome x.Expr). Fails o c.lowest.result (kinds c.args.cursor.now)) (sym (expr_lowest c.args.room (plain_lead c.args.lead) c.args.least (kinds c.args.cursor.now) (omega arith)))
    (lowest_fails x.Expr starts_expr (kinds c.args.cursor.now) c.lowest.result (c.lowest.ensures ∙ ap (λ (b : Bool). cond b TooDeep NoTree) c.starts_expr.ensures))

pub nested_expr-returns-clause-reads : goal.nested_expr-returns-clause-reads
nested_expr-returns-clause-reads t c = rw (expr_below c.args.room (plain_lead c.args.lead) c.args.least (kinds c.args.cursor.now) (omega arith)) c.operations.ensures.reads

pub nested_list-returns-then-room-eq0-clause-reads : goal.nested_list-returns-then-room-eq0-clause-reads
nested_list-returns-then-room-eq0-clause-reads t c =
    subst (λ (o : Outcome x.InitList). Fails o c.lowest.result (kinds c.args.cursor.now)) (sym (list_lowest c.args.room (kinds c.args.cursor.now) (omega arith)))
    (lowest_fails x.InitList starts_list (kinds c.args.cursor.now) c.lowest.result (c.lowest.ensures ∙ ap (λ (b : Bool). cond b TooDeep NoTree) c.starts_list.ensures))

pub nested_list-returns-clause-reads : goal.nested_list-returns-clause-reads
nested_list-returns-clause-reads t c = rw (list_below c.args.room (kinds c.args.cursor.now) (omega arith)) c.braces.ensures.reads
