use Rattle.std.proofs.Common.{rules, arith, ◌≡◌, ◌∙◌, sym, ap, subst, ◌<◌, ◌≤◌, Some, Ok, List, drop}
use Rattle.jr_base.specs.declared.kind.Kind.{Kind}
use Rattle.jr_tree.specs.Depth.{expr_depth}
use Rattle.jr_tree.specs.Mirror.Exprs.{plain_expr}
use Rattle.jr_parse_laws.specs.Parsers.{kinds, first, Fails}
use Rattle.jr_parse_laws.proofs.Outcomes.{reads_err}
use Rattle.jr_parse_expr.specs.Exprs as spec
use Rattle.jr_parse_expr.specs.Steps.{operation_of, operated}
use Rattle.jr_parse_expr.proofs.Turning.{climb_more, climb_fails, climb_deep, climb_over}
use Rattle.jr_parse_expr.proofs.grammar.Grammar.climb.Goals as goal

pub returns-then-left-self-clause-reads : goal.returns-then-left-self-clause-reads
returns-then-left-self-clause-reads g c =
    let exact : c.operators.left.height ≡ expr_depth (plain_expr c.operators.left.expr) = c.operators.left.exact in
    let high : c.args.self.now.room < expr_depth (plain_expr c.operators.left.expr) = omega arith in
    c.operators.invariant.same ∙ climb_deep c.args.self.now.room (spec.expr c.args.self.now.room) (spec.list c.args.self.now.room) c.args.least (plain_expr c.operators.left.expr) (kinds c.operators.cursor) c.in-Some.operation (sym c.in-Some.ensures) high

pub returns-in_err-left-clause-reads : goal.returns-in_err-left-clause-reads
returns-in_err-left-clause-reads g c =
    let exact : c.operators.left.height ≡ expr_depth (plain_expr c.operators.left.expr) = c.operators.left.exact in
    let low : expr_depth (plain_expr c.operators.left.expr) ≤ c.args.self.now.room = omega arith in
    rw c.operators.invariant.same
    (reads_err _ _ c.from_residual.result c.in_err-left.field-0.0 (kinds c.operated.new.cursor) (search rules)
    (climb_fails c.args.self.now.room (spec.expr c.args.self.now.room) (spec.list c.args.self.now.room) c.args.least (plain_expr c.operators.left.expr) (kinds c.operators.cursor) c.in-Some.operation c.in_err-left.field-0.0 (kinds c.operated.new.cursor) (sym c.in-Some.ensures) low
    (subst (λ (ts : List Kind). Fails (operated c.args.self.now.room (spec.expr c.args.self.now.room) (spec.list c.args.self.now.room) (plain_expr c.operators.left.expr) c.in-Some.operation ts) c.in_err-left.field-0.0 (kinds c.operated.new.cursor)) c.skip.ensures c.in_err-left.ensures.reads)))

pub operators-smaller : goal.operators-smaller
operators-smaller g c =
    let exact : c.operators.left.height ≡ expr_depth (plain_expr c.operators.left.expr) = c.operators.left.exact in
    let low : expr_depth (plain_expr c.operators.left.expr) ≤ c.args.self.now.room = omega arith in
    let read : operated c.args.self.now.room (spec.expr c.args.self.now.room) (spec.list c.args.self.now.room) (plain_expr c.operators.left.expr) c.in-Some.operation (drop 1 (kinds c.operators.cursor)) ≡ Ok (plain_expr c.in_ok-left.left.expr, kinds c.operated.new.cursor) =
    ap (operated c.args.self.now.room (spec.expr c.args.self.now.room) (spec.list c.args.self.now.room) (plain_expr c.operators.left.expr) c.in-Some.operation) (sym c.skip.ensures) ∙ c.in_ok-left.ensures.reads in
    let turn = climb_more c.args.self.now.room (spec.expr c.args.self.now.room) (spec.list c.args.self.now.room) c.args.least (plain_expr c.operators.left.expr) (kinds c.operators.cursor) c.in-Some.operation (plain_expr c.in_ok-left.left.expr) (kinds c.operated.new.cursor) (sym c.in-Some.ensures) low read in
    let higher : expr_depth (plain_expr c.operators.left.expr) < expr_depth (plain_expr c.in_ok-left.left.expr) = turn.1 in
    let after : c.in_ok-left.left.height ≡ expr_depth (plain_expr c.in_ok-left.left.expr) = c.in_ok-left.left.exact in
    omega arith

pub operators-preserved : goal.operators-preserved
operators-preserved g c =
    let exact : c.operators.left.height ≡ expr_depth (plain_expr c.operators.left.expr) = c.operators.left.exact in
    let low : expr_depth (plain_expr c.operators.left.expr) ≤ c.args.self.now.room = omega arith in
    let read : operated c.args.self.now.room (spec.expr c.args.self.now.room) (spec.list c.args.self.now.room) (plain_expr c.operators.left.expr) c.in-Some.operation (drop 1 (kinds c.operators.cursor)) ≡ Ok (plain_expr c.in_ok-left.left.expr, kinds c.operated.new.cursor) =
    ap (operated c.args.self.now.room (spec.expr c.args.self.now.room) (spec.list c.args.self.now.room) (plain_expr c.operators.left.expr) c.in-Some.operation) (sym c.skip.ensures) ∙ c.in_ok-left.ensures.reads in
    let turn = climb_more c.args.self.now.room (spec.expr c.args.self.now.room) (spec.list c.args.self.now.room) c.args.least (plain_expr c.operators.left.expr) (kinds c.operators.cursor) c.in-Some.operation (plain_expr c.in_ok-left.left.expr) (kinds c.operated.new.cursor) (sym c.in-Some.ensures) low read in
    record { same = c.operators.invariant.same ∙ turn.0; low = c.in_ok-left.ensures.low }

pub returns-clause-reads : goal.returns-clause-reads
returns-clause-reads g c = c.operators.invariant.same ∙ climb_over c.args.self.now.room (spec.expr c.args.self.now.room) (spec.list c.args.self.now.room) c.args.least (plain_expr c.operators.left.expr) (kinds c.operators.cursor) (sym c.in_default.ensures)
