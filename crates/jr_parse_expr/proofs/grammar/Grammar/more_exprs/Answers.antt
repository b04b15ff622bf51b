use Rattle.std.proofs.Common.{rules, arith, ◌≡◌, ◌∙◌, sym, ap, true, false, Ok, [], ◌∷◌, ◌++◌, drop, map}
use Rattle.jr_base.specs.declared.kind.Symbol.TheVariants as y
use Rattle.jr_tree.specs.declared.tree.Expr.{Expr}
use Rattle.jr_tree.specs.Mirror.Exprs.{plain_expr}
use Rattle.jr_parse_laws.specs.Parsers.{kinds, is_at, with_front}
use Rattle.jr_parse_laws.proofs.Outcomes.{reads_err}
use Rattle.jr_parse_expr.specs.Exprs as spec
use Rattle.jr_parse_expr.specs.Steps.{more_exprs}
use Rattle.jr_parse_expr.proofs.Behind.{exprs_more, exprs_fails, exprs_done}
use Rattle.jr_parse_expr.proofs.Shorter.{fewer_tokens, expr_shorter}
use Rattle.jr_parse_expr.proofs.grammar.Grammar.more_exprs.Goals as goal

pub returns-in_err-next-clause-reads : goal.returns-in_err-next-clause-reads
returns-in_err-next-clause-reads g c =
    let begins : is_at y.Comma (kinds c.exprs.cursor) ≡ true = cc in
    rw c.exprs.invariant.same
    (reads_err _ _ c.from_residual.result c.in_err-next.field-0.0 (kinds c.expr.new.cursor) (search rules)
    (exprs_fails c.args.self.now.room c.exprs.all.args (kinds c.exprs.cursor) c.in_err-next.field-0.0 (kinds c.expr.new.cursor) begins (search rules)))

pub exprs-smaller : goal.exprs-smaller
exprs-smaller g c =
    let begins : is_at y.Comma (kinds c.exprs.cursor) ≡ true = cc in
    let read : spec.expr c.args.self.now.room spec.Nothing 0 (drop 1 (kinds c.exprs.cursor)) ≡ Ok (plain_expr c.in_ok-next.next.expr, kinds c.expr.new.cursor) = search rules in
    fewer_tokens c.exprs.cursor c.expr.new.cursor (expr_shorter c.args.self.now.room y.Comma (kinds c.exprs.cursor) (plain_expr c.in_ok-next.next.expr) (kinds c.expr.new.cursor) begins read)

pub exprs-preserved : goal.exprs-preserved
exprs-preserved g c =
    let begins : is_at y.Comma (kinds c.exprs.cursor) ≡ true = cc in
    let read : spec.expr c.args.self.now.room spec.Nothing 0 (drop 1 (kinds c.exprs.cursor)) ≡ Ok (plain_expr c.in_ok-next.next.expr, kinds c.expr.new.cursor) = search rules in
    let pushed : c.in_ok-all.all.args ≡ c.exprs.all.args ++ c.in_ok-next.next.expr ∷ [] = c.in_ok-all.ensures.args in
    record {
      same =
          c.exprs.invariant.same ∙ exprs_more c.args.self.now.room c.exprs.all.args (kinds c.exprs.cursor) c.in_ok-next.next.expr (kinds c.expr.new.cursor) begins read
          ∙ ap (λ (all : _). with_front (map plain_expr all) (more_exprs (spec.expr c.args.self.now.room) (kinds c.expr.new.cursor))) (sym pushed);
      low = let h = c.exprs.invariant.low in omega (arith, c.in_ok-all.ensures.height, c.in_ok-next.ensures.low);
    }

pub returns-clause-reads : goal.returns-clause-reads
returns-clause-reads g c =
    let over : is_at y.Comma (kinds c.exprs.cursor) ≡ false = cc in
    c.exprs.invariant.same ∙ exprs_done c.args.self.now.room c.exprs.all.args (kinds c.exprs.cursor) over
