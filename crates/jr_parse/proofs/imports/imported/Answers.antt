use Rattle.std.proofs.Common.{rules, ◌≡◌, ◌∙◌, sym, ap, subst, true, false, Ok, List, [], ◌∷◌, ◌++◌, drop}
use Rattle.jr_base.specs.declared.text.Text.{Text}
use Rattle.jr_base.specs.declared.kind.Kind.{Kind}
use Rattle.jr_base.specs.declared.kind.Symbol.TheVariants as y
use Rattle.jr_tree.specs.declared.tree.Import.{Import}
use Rattle.jr_parse_laws.specs.Parsers.{Outcome, Fails, Reads, identifier, is_at, kinds}
use Rattle.jr_parse_laws.proofs.Outcomes.{reads_err}
use Rattle.jr_parse_expr.specs.Names.{name_of}
use Rattle.jr_parse.specs.Importing as begun
use Rattle.jr_parse.proofs.Parts.{imported_more, imported_star, imported_fails}
use Rattle.jr_parse.proofs.imports.imported.Goals as goal

pub returns-then-is_at : goal.returns-then-is_at
returns-then-is_at c =
    let ts = kinds c.parts.cursor in
    let dot : is_at y.Dot ts ≡ true = sym c.is_at.ensures ∙ c.parts-test.true in
    let star : is_at y.Star (drop 1 ts) ≡ true = ap (is_at y.Star) (sym c.skip.ensures) ∙ sym c.is_at-in-parts.ensures ∙ c.if-is_at.true in
    let named : c.in_ok-name.name ≡ name_of (c.parts.before ++ c.parts.last ∷ []) = c.in_ok-name.ensures in
    let read : begun.imported [] c.args.head (kinds c.args.cursor.now) ≡ begun.on_demand c.in_ok-name.name (kinds c.skip-then-is_at.new.self) =
    c.parts.invariant ∙ imported_star c.parts.before c.parts.last ts dot star ∙ ap (λ n. begun.on_demand n (drop 1 (drop 1 ts))) (sym named)
    ∙ ap (begun.on_demand c.in_ok-name.name) (ap (λ (us : List Kind). drop 1 us) (sym c.skip.ensures) ∙ sym c.skip-then-is_at.ensures) in
    subst (λ (o : Outcome Import). Reads (λ (i : Import). i) o c.on_demand.result (kinds c.on_demand.new.cursor)) (sym read) c.on_demand.ensures

pub returns-in_err-next : goal.returns-in_err-next
returns-in_err-next c =
    let dot : is_at y.Dot (kinds c.parts.cursor) ≡ true = sym c.is_at.ensures ∙ c.parts-test.true in
    let other : is_at y.Star (drop 1 (kinds c.parts.cursor)) ≡ false = ap (is_at y.Star) (sym c.skip.ensures) ∙ sym c.is_at-in-parts.ensures ∙ c.if-is_at.false in
    rw c.parts.invariant
    (reads_err _ _ c.from_residual-in_err-next.result c.in_err-next.field-0.0 (kinds c.identifier.new.self) (search rules)
    (imported_fails c.parts.before c.parts.last (kinds c.parts.cursor) c.in_err-next.field-0.0 (kinds c.identifier.new.self) dot other
    (subst (λ (ts : List Kind). Fails (identifier ts) c.in_err-next.field-0.0 (kinds c.identifier.new.self)) c.skip.ensures c.in_err-next.ensures)))

pub parts-preserved : goal.parts-preserved
parts-preserved c =
    let dot : is_at y.Dot (kinds c.parts.cursor) ≡ true = sym c.is_at.ensures ∙ c.parts-test.true in
    let read : identifier (drop 1 (kinds c.parts.cursor)) ≡ Ok (c.in_ok-next.next, kinds c.identifier.new.self) = ap identifier (sym c.skip.ensures) ∙ c.in_ok-next.ensures in
    let pushed : c.push.new.self ≡ c.parts.before ++ c.parts.last ∷ [] = search rules in
    c.parts.invariant ∙ imported_more c.parts.before c.parts.last (kinds c.parts.cursor) c.in_ok-next.next (kinds c.identifier.new.self) dot read
    ∙ ap (λ (all : List Text). begun.imported all c.in_ok-next.next (kinds c.identifier.new.self)) (sym pushed)
