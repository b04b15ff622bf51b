use Rattle.std.proofs.Common.{arith, ◌≡◌, ◌∙◌, ◌<◌, ◌≤◌, sym, subst, List}
use Rattle.jr_base.specs.declared.kind.Kind.{Kind}
use Rattle.jr_tree.specs.Depth.{expr_depth}
use Rattle.jr_tree.specs.Mirror.Exprs as x
use Rattle.jr_tree.specs.Mirror.Exprs.{plain_expr}
use Rattle.jr_parse_laws.specs.Parsers.{Outcome, kinds}
use Rattle.jr_parse_expr.specs.Exprs as spec
use Rattle.jr_parse_expr.specs.Views.{ReadsExpr}
use Rattle.jr_parse_expr.proofs.Begins.{end_high, end_assigned, end_statement, end_refused}
use Rattle.jr_parse_expr.proofs.effects.EffectGrammar.end.Goals as goal

pub returns-then-left-self-clause-reads : goal.returns-then-left-self-clause-reads
returns-then-left-self-clause-reads g c =
    let exact : c.args.left.height ≡ expr_depth (plain_expr c.args.left.expr) = c.args.left.exact in
    let high : c.args.self.now.inner.room < expr_depth (plain_expr c.args.left.expr) = omega arith in
    end_high c.args.self.now.inner.room (spec.expr c.args.self.now.inner.room) (spec.list c.args.self.now.inner.room) (plain_expr c.args.left.expr) (kinds c.args.cursor.now) c.in-Some.op (sym c.in-Some.ensures) high

pub returns-else-left-self-clause-reads : goal.returns-else-left-self-clause-reads
returns-else-left-self-clause-reads g c =
    let exact : c.args.left.height ≡ expr_depth (plain_expr c.args.left.expr) = c.args.left.exact in
    let low : expr_depth (plain_expr c.args.left.expr) ≤ c.args.self.now.inner.room = omega arith in
    subst (λ (o : Outcome x.Expr). ReadsExpr o c.assigned.result (kinds c.assigned.new.cursor)) (sym (end_assigned c.args.self.now.inner.room (spec.expr c.args.self.now.inner.room) (spec.list c.args.self.now.inner.room) (plain_expr c.args.left.expr) (kinds c.args.cursor.now) c.in-Some.op (sym c.in-Some.ensures) low))
    (subst (λ (ts : List Kind). ReadsExpr (spec.assigned c.args.self.now.inner.room (spec.expr c.args.self.now.inner.room) (spec.list c.args.self.now.inner.room) (plain_expr c.args.left.expr) c.in-Some.op ts) c.assigned.result (kinds c.assigned.new.cursor)) c.skip.ensures c.assigned.ensures.reads)

pub returns-then-is_statement-clause-reads : goal.returns-then-is_statement-clause-reads
returns-then-is_statement-clause-reads g c = end_statement c.args.self.now.inner.room (spec.expr c.args.self.now.inner.room) (spec.list c.args.self.now.inner.room) (plain_expr c.args.left.expr) (kinds c.args.cursor.now) (sym c.in-None.ensures) (sym c.is_statement.ensures ∙ c.if-is_statement.true)

pub returns-else-is_statement-clause-reads : goal.returns-else-is_statement-clause-reads
returns-else-is_statement-clause-reads g c = end_refused c.args.self.now.inner.room (spec.expr c.args.self.now.inner.room) (spec.list c.args.self.now.inner.room) (plain_expr c.args.left.expr) (kinds c.args.cursor.now) (sym c.in-None.ensures) (sym c.is_statement.ensures ∙ c.if-is_statement.false)
