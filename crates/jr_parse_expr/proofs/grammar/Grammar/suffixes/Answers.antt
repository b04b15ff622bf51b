use Rattle.std.proofs.Common.{rules, arith, ◌≡◌, ◌∙◌, sym, ap, subst, ◌<◌, ◌≤◌, Some, Ok, List, drop}
use Rattle.jr_base.specs.declared.kind.Kind.{Kind}
use Rattle.jr_tree.specs.Depth.{expr_depth}
use Rattle.jr_tree.specs.Mirror.Exprs.{plain_expr}
use Rattle.jr_parse_laws.specs.Parsers.{kinds, symbol_at, Fails}
use Rattle.jr_parse_laws.proofs.Outcomes.{reads_err}
use Rattle.jr_parse_expr.specs.Exprs as spec
use Rattle.jr_parse_expr.specs.Steps.{suffix_of, suffixed}
use Rattle.jr_parse_expr.proofs.Turning.{suffixes_more, suffixes_fails, suffixes_deep, suffixes_over}
use Rattle.jr_parse_expr.proofs.grammar.Grammar.suffixes.Goals as goal

pub returns-then-left-self-clause-reads : goal.returns-then-left-self-clause-reads
returns-then-left-self-clause-reads g c =
    let exact : c.suffixes.left.height ≡ expr_depth (plain_expr c.suffixes.left.expr) = c.suffixes.left.exact in
    let high : c.args.self.now.room < expr_depth (plain_expr c.suffixes.left.expr) = omega arith in
    c.suffixes.invariant.same ∙ suffixes_deep c.args.self.now.room (spec.expr c.args.self.now.room) (spec.list c.args.self.now.room) (plain_expr c.suffixes.left.expr) (kinds c.suffixes.cursor) c.in-Some.suffix (sym c.in-Some.ensures) high

pub returns-in_err-left-clause-reads : goal.returns-in_err-left-clause-reads
returns-in_err-left-clause-reads g c =
    let exact : c.suffixes.left.height ≡ expr_depth (plain_expr c.suffixes.left.expr) = c.suffixes.left.exact in
    let low : expr_depth (plain_expr c.suffixes.left.expr) ≤ c.args.self.now.room = omega arith in
    rw c.suffixes.invariant.same
    (reads_err _ _ c.from_residual.result c.in_err-left.field-0.0 (kinds c.suffixed.new.cursor) (search rules)
    (suffixes_fails c.args.self.now.room (spec.expr c.args.self.now.room) (spec.list c.args.self.now.room) (plain_expr c.suffixes.left.expr) (kinds c.suffixes.cursor) c.in-Some.suffix c.in_err-left.field-0.0 (kinds c.suffixed.new.cursor) (sym c.in-Some.ensures) low
    (subst (λ (ts : List Kind). Fails (suffixed c.args.self.now.room (spec.expr c.args.self.now.room) (spec.list c.args.self.now.room) (plain_expr c.suffixes.left.expr) c.in-Some.suffix ts) c.in_err-left.field-0.0 (kinds c.suffixed.new.cursor)) c.skip.ensures c.in_err-left.ensures.reads)))

pub suffixes-smaller : goal.suffixes-smaller
suffixes-smaller g c =
    let exact : c.suffixes.left.height ≡ expr_depth (plain_expr c.suffixes.left.expr) = c.suffixes.left.exact in
    let low : expr_depth (plain_expr c.suffixes.left.expr) ≤ c.args.self.now.room = omega arith in
    let read : suffixed c.args.self.now.room (spec.expr c.args.self.now.room) (spec.list c.args.self.now.room) (plain_expr c.suffixes.left.expr) c.in-Some.suffix (drop 1 (kinds c.suffixes.cursor)) ≡ Ok (plain_expr c.in_ok-left.left.expr, kinds c.suffixed.new.cursor) =
    ap (suffixed c.args.self.now.room (spec.expr c.args.self.now.room) (spec.list c.args.self.now.room) (plain_expr c.suffixes.left.expr) c.in-Some.suffix) (sym c.skip.ensures) ∙ c.in_ok-left.ensures.reads in
    let turn = suffixes_more c.args.self.now.room (spec.expr c.args.self.now.room) (spec.list c.args.self.now.room) (plain_expr c.suffixes.left.expr) (kinds c.suffixes.cursor) c.in-Some.suffix (plain_expr c.in_ok-left.left.expr) (kinds c.suffixed.new.cursor) (sym c.in-Some.ensures) low read in
    let higher : expr_depth (plain_expr c.suffixes.left.expr) < expr_depth (plain_expr c.in_ok-left.left.expr) = turn.1 in
    let after : c.in_ok-left.left.height ≡ expr_depth (plain_expr c.in_ok-left.left.expr) = c.in_ok-left.left.exact in
    omega arith

pub suffixes-preserved : goal.suffixes-preserved
suffixes-preserved g c =
    let exact : c.suffixes.left.height ≡ expr_depth (plain_expr c.suffixes.left.expr) = c.suffixes.left.exact in
    let low : expr_depth (plain_expr c.suffixes.left.expr) ≤ c.args.self.now.room = omega arith in
    let read : suffixed c.args.self.now.room (spec.expr c.args.self.now.room) (spec.list c.args.self.now.room) (plain_expr c.suffixes.left.expr) c.in-Some.suffix (drop 1 (kinds c.suffixes.cursor)) ≡ Ok (plain_expr c.in_ok-left.left.expr, kinds c.suffixed.new.cursor) =
    ap (suffixed c.args.self.now.room (spec.expr c.args.self.now.room) (spec.list c.args.self.now.room) (plain_expr c.suffixes.left.expr) c.in-Some.suffix) (sym c.skip.ensures) ∙ c.in_ok-left.ensures.reads in
    let turn = suffixes_more c.args.self.now.room (spec.expr c.args.self.now.room) (spec.list c.args.self.now.room) (plain_expr c.suffixes.left.expr) (kinds c.suffixes.cursor) c.in-Some.suffix (plain_expr c.in_ok-left.left.expr) (kinds c.suffixed.new.cursor) (sym c.in-Some.ensures) low read in
    record { same = c.suffixes.invariant.same ∙ turn.0; low = c.in_ok-left.ensures.low }

pub returns-clause-reads : goal.returns-clause-reads
returns-clause-reads g c = c.suffixes.invariant.same ∙ suffixes_over c.args.self.now.room (spec.expr c.args.self.now.room) (spec.list c.args.self.now.room) (plain_expr c.suffixes.left.expr) (kinds c.suffixes.cursor) (sym c.in_default.ensures)
