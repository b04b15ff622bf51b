use Rattle.std.proofs.Common.{rules, ◌≡◌, ◌∙◌, sym, ap, subst, true, false, Ok, List, [], ◌∷◌, ◌++◌, drop}
use Rattle.jr_base.specs.declared.kind.Kind.{Kind}
use Rattle.jr_base.specs.declared.kind.Symbol.TheVariants as y
use Rattle.jr_tree.specs.declared.tree.Name.{Name}
use Rattle.jr_parse_laws.specs.Parsers.{Fails, after_comma, begins_with, is_at, kinds, many, with_front}
use Rattle.jr_parse_laws.proofs.Outcomes.{reads_err}
use Rattle.jr_parse_laws.proofs.Turns.{behind_more, behind_fails, behind_done}
use Rattle.jr_parse_expr.specs.Names as reader
use Rattle.jr_parse.proofs.Turns.{fewer_tokens, name_keeps, item_shorter}
use Rattle.jr_parse.proofs.lists.more_names.Goals as goal

pub returns-in_err-next : goal.returns-in_err-next
returns-in_err-next c =
    let begins : is_at y.Comma (kinds c.names.cursor) ≡ true = sym c.is_at.ensures ∙ c.names-test.true in
    rw c.names.invariant
    (reads_err _ _ c.from_residual.result c.in_err-next.field-0.0 (kinds c.name.new.cursor) (search rules)
    (behind_fails y.Comma reader.name name_keeps c.names.all (kinds c.names.cursor) c.in_err-next.field-0.0 (kinds c.name.new.cursor) begins
    (subst (λ (ts : List Kind). Fails (reader.name ts) c.in_err-next.field-0.0 (kinds c.name.new.cursor)) c.skip.ensures c.in_err-next.ensures)))

pub names-smaller : goal.names-smaller
names-smaller c =
    let begins : is_at y.Comma (kinds c.names.cursor) ≡ true = sym c.is_at.ensures ∙ c.names-test.true in
    let read : reader.name (drop 1 (kinds c.names.cursor)) ≡ Ok (c.in_ok-next.next, kinds c.name.new.cursor) = ap reader.name (sym c.skip.ensures) ∙ c.in_ok-next.ensures in
    fewer_tokens c.names.cursor c.name.new.cursor (item_shorter reader.name name_keeps y.Comma (kinds c.names.cursor) c.in_ok-next.next (kinds c.name.new.cursor) begins read)

pub names-preserved : goal.names-preserved
names-preserved c =
    let begins : is_at y.Comma (kinds c.names.cursor) ≡ true = sym c.is_at.ensures ∙ c.names-test.true in
    let read : reader.name (drop 1 (kinds c.names.cursor)) ≡ Ok (c.in_ok-next.next, kinds c.name.new.cursor) = ap reader.name (sym c.skip.ensures) ∙ c.in_ok-next.ensures in
    let pushed : c.push.new.self ≡ c.names.all ++ c.in_ok-next.next ∷ [] = search rules in
    c.names.invariant ∙ behind_more y.Comma reader.name name_keeps c.names.all (kinds c.names.cursor) c.in_ok-next.next (kinds c.name.new.cursor) begins read
    ∙ ap (λ (all : List Name). with_front all (many (begins_with y.Comma) (after_comma reader.name) (kinds c.name.new.cursor))) (sym pushed)

pub returns : goal.returns
returns c =
    let over : is_at y.Comma (kinds c.names.cursor) ≡ false = sym c.is_at.ensures ∙ c.names-test.false in
    c.names.invariant ∙ behind_done y.Comma reader.name name_keeps c.names.all (kinds c.names.cursor) over
