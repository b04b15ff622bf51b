use Rattle.std.proofs.Common.{rules, ◌≡◌, ◌∙◌, sym, ap, subst, true, false, Ok, List, [], ◌∷◌, ◌++◌, drop}
use Rattle.jr_base.specs.declared.kind.Kind.{Kind}
use Rattle.jr_base.specs.declared.kind.Symbol.TheVariants as y
use Rattle.jr_tree.specs.declared.tree.Param.{Param}
use Rattle.jr_parse_laws.specs.Parsers.{Fails, after_comma, begins_with, is_at, kinds, many, with_front}
use Rattle.jr_parse_laws.proofs.Outcomes.{reads_err}
use Rattle.jr_parse_laws.proofs.Turns.{behind_more, behind_fails, behind_done}
use Rattle.jr_parse_defs.specs.Stmts as stmts
use Rattle.jr_parse.proofs.Turns.{fewer_tokens, param_keeps, item_shorter}
use Rattle.jr_parse.proofs.lists.more_params.Goals as goal

pub returns-in_err-next : goal.returns-in_err-next
returns-in_err-next c =
    let begins : is_at y.Comma (kinds c.params.cursor) ≡ true = sym c.is_at.ensures ∙ c.params-test.true in
    rw c.params.invariant
    (reads_err _ _ c.from_residual.result c.in_err-next.field-0.0 (kinds c.param.new.cursor) (search rules)
    (behind_fails y.Comma stmts.param param_keeps c.params.all (kinds c.params.cursor) c.in_err-next.field-0.0 (kinds c.param.new.cursor) begins
    (subst (λ (ts : List Kind). Fails (stmts.param ts) c.in_err-next.field-0.0 (kinds c.param.new.cursor)) c.skip.ensures c.in_err-next.ensures)))

pub params-smaller : goal.params-smaller
params-smaller c =
    let begins : is_at y.Comma (kinds c.params.cursor) ≡ true = sym c.is_at.ensures ∙ c.params-test.true in
    let read : stmts.param (drop 1 (kinds c.params.cursor)) ≡ Ok (c.in_ok-next.next, kinds c.param.new.cursor) = ap stmts.param (sym c.skip.ensures) ∙ c.in_ok-next.ensures in
    fewer_tokens c.params.cursor c.param.new.cursor (item_shorter stmts.param param_keeps y.Comma (kinds c.params.cursor) c.in_ok-next.next (kinds c.param.new.cursor) begins read)

pub params-preserved : goal.params-preserved
params-preserved c =
    let begins : is_at y.Comma (kinds c.params.cursor) ≡ true = sym c.is_at.ensures ∙ c.params-test.true in
    let read : stmts.param (drop 1 (kinds c.params.cursor)) ≡ Ok (c.in_ok-next.next, kinds c.param.new.cursor) = ap stmts.param (sym c.skip.ensures) ∙ c.in_ok-next.ensures in
    let pushed : c.push.new.self ≡ c.params.all ++ c.in_ok-next.next ∷ [] = search rules in
    c.params.invariant ∙ behind_more y.Comma stmts.param param_keeps c.params.all (kinds c.params.cursor) c.in_ok-next.next (kinds c.param.new.cursor) begins read
    ∙ ap (λ (all : List Param). with_front all (many (begins_with y.Comma) (after_comma stmts.param) (kinds c.param.new.cursor))) (sym pushed)

pub returns : goal.returns
returns c =
    let over : is_at y.Comma (kinds c.params.cursor) ≡ false = sym c.is_at.ensures ∙ c.params-test.false in
    c.params.invariant ∙ behind_done y.Comma stmts.param param_keeps c.params.all (kinds c.params.cursor) over
