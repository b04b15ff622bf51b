use Rattle.std.proofs.Common.{rules, arith, ◌≡◌, ◌∙◌, sym, ap, subst, suc, true, false, Ok, List, [], ◌∷◌, ◌++◌, drop, map, add-one}
use Rattle.jr_base.specs.declared.kind.Kind.{Kind}
use Rattle.jr_base.specs.declared.kind.Symbol.TheVariants as y
use Rattle.jr_tree.specs.declared.tree.Expr.{Expr}
use Rattle.jr_tree.specs.Mirror.Exprs.{plain_expr}
use Rattle.jr_parse_laws.specs.Parsers.{kinds, expect, is_at, Fails}
use Rattle.jr_parse_laws.proofs.Outcomes.{reads_err}
use Rattle.jr_parse_expr.specs.Names.{dims}
use Rattle.jr_parse_expr.specs.Exprs as spec
use Rattle.jr_parse_expr.specs.Steps.{with_sizes}
use Rattle.jr_parse_expr.proofs.Behind.{sizes_more, sizes_fails, sizes_unclosed, sizes_last, sizes_last_fails, sizes_done}
use Rattle.jr_parse_expr.proofs.Shorter.{fewer_tokens, size_shorter}
use Rattle.jr_parse_expr.proofs.grammar.Grammar.sizes.Goals as goal

pub returns-in_err-more-clause-reads : goal.returns-in_err-more-clause-reads
returns-in_err-more-clause-reads g c =
    let begins : is_at y.OpenBracket (kinds c.sizes.cursor) ≡ true = sym c.is_at.ensures ∙ c.sizes-test.true in
    let closes : is_at y.CloseBracket (drop 1 (kinds c.sizes.cursor)) ≡ true = ap (is_at y.CloseBracket) (sym c.skip.ensures) ∙ sym c.is_at-in-sizes.ensures ∙ c.if-is_at.true in
    rw c.sizes.invariant.same
    (reads_err _ _ c.from_residual.result c.in_err-more.field-0.0 (kinds c.dims_behind.new.cursor) (search rules)
    (sizes_last_fails c.args.self.now.room c.sizes.all.args (kinds c.sizes.cursor) c.in_err-more.field-0.0 (kinds c.dims_behind.new.cursor) begins closes
    (subst (λ (ts : List Kind). Fails (dims (drop 1 ts)) c.in_err-more.field-0.0 (kinds c.dims_behind.new.cursor)) c.skip.ensures c.in_err-more.ensures.reads)))

pub returns-then-is_at-clause-reads : goal.returns-then-is_at-clause-reads
returns-then-is_at-clause-reads g c =
    let begins : is_at y.OpenBracket (kinds c.sizes.cursor) ≡ true = sym c.is_at.ensures ∙ c.sizes-test.true in
    let closes : is_at y.CloseBracket (drop 1 (kinds c.sizes.cursor)) ≡ true = ap (is_at y.CloseBracket) (sym c.skip.ensures) ∙ sym c.is_at-in-sizes.ensures ∙ c.if-is_at.true in
    let read : dims (drop 1 (drop 1 (kinds c.sizes.cursor))) ≡ Ok (c.in_ok-more.more, kinds c.dims_behind.new.cursor) =
    ap (λ (ts : List Kind). dims (drop 1 ts)) (sym c.skip.ensures) ∙ c.in_ok-more.ensures.reads in
    c.sizes.invariant.same ∙ rw add-one (sizes_last c.args.self.now.room c.sizes.all.args (kinds c.sizes.cursor) c.in_ok-more.more (kinds c.dims_behind.new.cursor) begins closes read)

pub returns-in_err-size-clause-reads : goal.returns-in_err-size-clause-reads
returns-in_err-size-clause-reads g c =
    let begins : is_at y.OpenBracket (kinds c.sizes.cursor) ≡ true = sym c.is_at.ensures ∙ c.sizes-test.true in
    let opens : is_at y.CloseBracket (drop 1 (kinds c.sizes.cursor)) ≡ false = ap (is_at y.CloseBracket) (sym c.skip.ensures) ∙ sym c.is_at-in-sizes.ensures ∙ c.if-is_at.false in
    rw c.sizes.invariant.same
    (reads_err _ _ c.from_residual-in_err-size.result c.in_err-size.field-0.0 (kinds c.expr.new.cursor) (search rules)
    (sizes_fails c.args.self.now.room c.sizes.all.args (kinds c.sizes.cursor) c.in_err-size.field-0.0 (kinds c.expr.new.cursor) begins opens
    (subst (λ (ts : List Kind). Fails (spec.expr c.args.self.now.room spec.Nothing 0 ts) c.in_err-size.field-0.0 (kinds c.expr.new.cursor)) c.skip.ensures c.in_err-size.ensures.reads)))

pub returns-in-Err-clause-reads : goal.returns-in-Err-clause-reads
returns-in-Err-clause-reads g c =
    let begins : is_at y.OpenBracket (kinds c.sizes.cursor) ≡ true = sym c.is_at.ensures ∙ c.sizes-test.true in
    let opens : is_at y.CloseBracket (drop 1 (kinds c.sizes.cursor)) ≡ false = ap (is_at y.CloseBracket) (sym c.skip.ensures) ∙ sym c.is_at-in-sizes.ensures ∙ c.if-is_at.false in
    let read : spec.expr c.args.self.now.room spec.Nothing 0 (drop 1 (kinds c.sizes.cursor)) ≡ Ok (plain_expr c.in_ok-size.size.expr, kinds c.expr.new.cursor) =
    ap (spec.expr c.args.self.now.room spec.Nothing 0) (sym c.skip.ensures) ∙ c.in_ok-size.ensures.reads in
    rw c.sizes.invariant.same
    (sizes_unclosed c.args.self.now.room c.sizes.all.args (kinds c.sizes.cursor) c.in_ok-size.size.expr (kinds c.expr.new.cursor) c.in-Err.fault (kinds c.expect.new.self) begins opens read c.in-Err.ensures)

pub sizes-smaller : goal.sizes-smaller
sizes-smaller g c =
    let begins : is_at y.OpenBracket (kinds c.sizes.cursor) ≡ true = sym c.is_at.ensures ∙ c.sizes-test.true in
    let read : spec.expr c.args.self.now.room spec.Nothing 0 (drop 1 (kinds c.sizes.cursor)) ≡ Ok (plain_expr c.in_ok-size.size.expr, kinds c.expr.new.cursor) =
    ap (spec.expr c.args.self.now.room spec.Nothing 0) (sym c.skip.ensures) ∙ c.in_ok-size.ensures.reads in
    let closed : expect y.CloseBracket (kinds c.expr.new.cursor) ≡ Ok (tt, kinds c.expect.new.self) = c.in_default.ensures in
    fewer_tokens c.sizes.cursor c.expect.new.self (size_shorter c.args.self.now.room (kinds c.sizes.cursor) (plain_expr c.in_ok-size.size.expr) (kinds c.expr.new.cursor) tt (kinds c.expect.new.self) begins read closed)

pub sizes-preserved : goal.sizes-preserved
sizes-preserved g c =
    let begins : is_at y.OpenBracket (kinds c.sizes.cursor) ≡ true = sym c.is_at.ensures ∙ c.sizes-test.true in
    let opens : is_at y.CloseBracket (drop 1 (kinds c.sizes.cursor)) ≡ false = ap (is_at y.CloseBracket) (sym c.skip.ensures) ∙ sym c.is_at-in-sizes.ensures ∙ c.if-is_at.false in
    let read : spec.expr c.args.self.now.room spec.Nothing 0 (drop 1 (kinds c.sizes.cursor)) ≡ Ok (plain_expr c.in_ok-size.size.expr, kinds c.expr.new.cursor) =
    ap (spec.expr c.args.self.now.room spec.Nothing 0) (sym c.skip.ensures) ∙ c.in_ok-size.ensures.reads in
    let closed : expect y.CloseBracket (kinds c.expr.new.cursor) ≡ Ok (tt, kinds c.expect.new.self) = c.in_default.ensures in
    let pushed : c.in_ok-all.all.args ≡ c.sizes.all.args ++ c.in_ok-size.size.expr ∷ [] = c.in_ok-all.ensures.args in
    record {
      same =
          c.sizes.invariant.same
          ∙ sizes_more c.args.self.now.room c.sizes.all.args (kinds c.sizes.cursor) c.in_ok-size.size.expr (kinds c.expr.new.cursor) tt (kinds c.expect.new.self) begins opens read closed
          ∙ ap (λ (all : List Expr). with_sizes (map plain_expr all) (spec.sizes c.args.self.now.room (spec.expr c.args.self.now.room) (spec.list c.args.self.now.room) (kinds c.expect.new.self))) (sym pushed);
      low = let h = c.sizes.invariant.low in omega (arith, c.in_ok-all.ensures.height, c.in_ok-size.ensures.low);
    }

pub returns-clause-reads : goal.returns-clause-reads
returns-clause-reads g c =
    let over : is_at y.OpenBracket (kinds c.sizes.cursor) ≡ false = sym c.is_at.ensures ∙ c.sizes-test.false in
    c.sizes.invariant.same ∙ sizes_done c.args.self.now.room c.sizes.all.args (kinds c.sizes.cursor) over
