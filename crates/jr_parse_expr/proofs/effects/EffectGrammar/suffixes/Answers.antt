use Rattle.std.proofs.Common.{rules, arith, ◌≡◌, ◌∙◌, sym, ap, subst, ℕ, ◌<◌, ◌≤◌, suc, Some, Ok, List, drop}
use Rattle.std.proofs.lemmas.Bool.{ltb-false, ltb-true}
use Rattle.jr_base.specs.declared.kind.Kind.{Kind}
use Rattle.jr_tree.specs.Depth.{expr_depth}
use Rattle.jr_tree.specs.Mirror.Exprs.{plain_expr}
use Rattle.jr_parse_laws.specs.Parsers.{kinds, symbol_at, Fails}
use Rattle.jr_parse_laws.proofs.Outcomes.{reads_err}
use Rattle.jr_parse_expr.specs.Begun.{levels_for, effect_suffixed}
use Rattle.jr_parse_expr.specs.Exprs as spec
use Rattle.jr_parse_expr.proofs.EffectTurns.{effect_more, effect_fails, effect_deep, effect_over}
use Rattle.jr_parse_expr.proofs.effects.EffectGrammar.suffixes.Goals as goal

pub returns-then-is_too_high-clause-reads : goal.returns-then-is_too_high-clause-reads
returns-then-is_too_high-clause-reads g c =
    let exact : c.suffixes.left.height ≡ expr_depth (plain_expr c.suffixes.left.expr) = c.suffixes.left.exact in
    let high : c.args.self.now.inner.room < levels_for (expr_depth (plain_expr c.suffixes.left.expr)) c.in-Some.suffix =
    subst (λ (n : ℕ). c.args.self.now.inner.room < levels_for n c.in-Some.suffix) exact (ltb-true c.args.self.now.inner.room (levels_for c.suffixes.left.height c.in-Some.suffix) (sym c.is_too_high.ensures ∙ c.if-is_too_high.true)) in
    c.suffixes.invariant.same ∙ effect_deep c.args.self.now.inner.room (spec.expr c.args.self.now.inner.room) (spec.list c.args.self.now.inner.room) (spec.expr c.args.self.now.low.room) (spec.list c.args.self.now.low.room) (plain_expr c.suffixes.left.expr) (kinds c.suffixes.cursor) c.in-Some.suffix (sym c.in-Some.ensures) high

pub returns-in_err-left-clause-reads : goal.returns-in_err-left-clause-reads
returns-in_err-left-clause-reads g c =
    let exact : c.suffixes.left.height ≡ expr_depth (plain_expr c.suffixes.left.expr) = c.suffixes.left.exact in
    let fits : levels_for (expr_depth (plain_expr c.suffixes.left.expr)) c.in-Some.suffix ≤ c.args.self.now.inner.room =
    subst (λ (n : ℕ). levels_for n c.in-Some.suffix ≤ c.args.self.now.inner.room) exact (ltb-false c.args.self.now.inner.room (levels_for c.suffixes.left.height c.in-Some.suffix) (sym c.is_too_high.ensures ∙ c.if-is_too_high.false)) in
    rw c.suffixes.invariant.same
    (reads_err _ _ c.from_residual.result c.in_err-left.field-0.0 (kinds c.suffixed.new.cursor) (search rules)
    (effect_fails c.args.self.now.inner.room (spec.expr c.args.self.now.inner.room) (spec.list c.args.self.now.inner.room) (spec.expr c.args.self.now.low.room) (spec.list c.args.self.now.low.room) c.args.self.now.low.room (plain_expr c.suffixes.left.expr) (kinds c.suffixes.cursor) c.in-Some.suffix c.in_err-left.field-0.0 (kinds c.suffixed.new.cursor) (sym c.in-Some.ensures) fits
    (subst (λ (ts : List Kind). Fails (effect_suffixed c.args.self.now.inner.room (spec.expr c.args.self.now.inner.room) (spec.list c.args.self.now.inner.room) c.args.self.now.low.room (spec.expr c.args.self.now.low.room) (spec.list c.args.self.now.low.room) (plain_expr c.suffixes.left.expr) c.in-Some.suffix ts) c.in_err-left.field-0.0 (kinds c.suffixed.new.cursor)) c.skip.ensures c.in_err-left.ensures.reads)))

pub suffixes-smaller : goal.suffixes-smaller
suffixes-smaller g c =
    let exact : c.suffixes.left.height ≡ expr_depth (plain_expr c.suffixes.left.expr) = c.suffixes.left.exact in
    let fits : levels_for (expr_depth (plain_expr c.suffixes.left.expr)) c.in-Some.suffix ≤ c.args.self.now.inner.room =
    subst (λ (n : ℕ). levels_for n c.in-Some.suffix ≤ c.args.self.now.inner.room) exact (ltb-false c.args.self.now.inner.room (levels_for c.suffixes.left.height c.in-Some.suffix) (sym c.is_too_high.ensures ∙ c.if-is_too_high.false)) in
    let read : effect_suffixed c.args.self.now.inner.room (spec.expr c.args.self.now.inner.room) (spec.list c.args.self.now.inner.room) c.args.self.now.low.room (spec.expr c.args.self.now.low.room) (spec.list c.args.self.now.low.room) (plain_expr c.suffixes.left.expr) c.in-Some.suffix (drop 1 (kinds c.suffixes.cursor)) ≡ Ok (plain_expr c.in_ok-left.left.expr, kinds c.suffixed.new.cursor) =
    ap (effect_suffixed c.args.self.now.inner.room (spec.expr c.args.self.now.inner.room) (spec.list c.args.self.now.inner.room) c.args.self.now.low.room (spec.expr c.args.self.now.low.room) (spec.list c.args.self.now.low.room) (plain_expr c.suffixes.left.expr) c.in-Some.suffix) (sym c.skip.ensures) ∙ c.in_ok-left.ensures.reads in
    let turn = effect_more c.args.self.now.inner.room (spec.expr c.args.self.now.inner.room) (spec.list c.args.self.now.inner.room) (spec.expr c.args.self.now.low.room) (spec.list c.args.self.now.low.room) c.args.self.now.low.room (plain_expr c.suffixes.left.expr) (kinds c.suffixes.cursor) c.in-Some.suffix (plain_expr c.in_ok-left.left.expr) (kinds c.suffixed.new.cursor) (sym c.in-Some.ensures) fits read in
    let higher : expr_depth (plain_expr c.suffixes.left.expr) < expr_depth (plain_expr c.in_ok-left.left.expr) = turn.1 in
    let after : c.in_ok-left.left.height ≡ expr_depth (plain_expr c.in_ok-left.left.expr) = c.in_ok-left.left.exact in
    let low : c.in_ok-left.left.height ≤ suc c.args.self.now.inner.room = c.in_ok-left.ensures.low in
    omega arith

pub suffixes-preserved : goal.suffixes-preserved
suffixes-preserved g c =
    let exact : c.suffixes.left.height ≡ expr_depth (plain_expr c.suffixes.left.expr) = c.suffixes.left.exact in
    let fits : levels_for (expr_depth (plain_expr c.suffixes.left.expr)) c.in-Some.suffix ≤ c.args.self.now.inner.room =
    subst (λ (n : ℕ). levels_for n c.in-Some.suffix ≤ c.args.self.now.inner.room) exact (ltb-false c.args.self.now.inner.room (levels_for c.suffixes.left.height c.in-Some.suffix) (sym c.is_too_high.ensures ∙ c.if-is_too_high.false)) in
    let read : effect_suffixed c.args.self.now.inner.room (spec.expr c.args.self.now.inner.room) (spec.list c.args.self.now.inner.room) c.args.self.now.low.room (spec.expr c.args.self.now.low.room) (spec.list c.args.self.now.low.room) (plain_expr c.suffixes.left.expr) c.in-Some.suffix (drop 1 (kinds c.suffixes.cursor)) ≡ Ok (plain_expr c.in_ok-left.left.expr, kinds c.suffixed.new.cursor) =
    ap (effect_suffixed c.args.self.now.inner.room (spec.expr c.args.self.now.inner.room) (spec.list c.args.self.now.inner.room) c.args.self.now.low.room (spec.expr c.args.self.now.low.room) (spec.list c.args.self.now.low.room) (plain_expr c.suffixes.left.expr) c.in-Some.suffix) (sym c.skip.ensures) ∙ c.in_ok-left.ensures.reads in
    let turn = effect_more c.args.self.now.inner.room (spec.expr c.args.self.now.inner.room) (spec.list c.args.self.now.inner.room) (spec.expr c.args.self.now.low.room) (spec.list c.args.self.now.low.room) c.args.self.now.low.room (plain_expr c.suffixes.left.expr) (kinds c.suffixes.cursor) c.in-Some.suffix (plain_expr c.in_ok-left.left.expr) (kinds c.suffixed.new.cursor) (sym c.in-Some.ensures) fits read in
    record { same = c.suffixes.invariant.same ∙ turn.0; low = c.in_ok-left.ensures.low }

pub returns-clause-reads : goal.returns-clause-reads
returns-clause-reads g c = c.suffixes.invariant.same ∙ effect_over c.args.self.now.inner.room (spec.expr c.args.self.now.inner.room) (spec.list c.args.self.now.inner.room) (spec.expr c.args.self.now.low.room) (spec.list c.args.self.now.low.room) (plain_expr c.suffixes.left.expr) (kinds c.suffixes.cursor) (sym c.in_default.ensures)
