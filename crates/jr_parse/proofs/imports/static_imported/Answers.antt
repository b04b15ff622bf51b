use Rattle.std.proofs.Common.{rules, ◌≡◌, ◌∙◌, sym, ap, true, Ok, List, [], ◌∷◌, ◌++◌, drop}
use Rattle.jr_base.specs.declared.text.Text.{Text}
use Rattle.jr_base.specs.declared.kind.Symbol.TheVariants as y
use Rattle.jr_parse_laws.specs.Parsers.{identifier, is_at, kinds}
use Rattle.jr_parse.specs.Importing as begun
use Rattle.jr_parse.proofs.Parts.{static_more}
use Rattle.jr_parse.proofs.imports.static_imported.Goals as goal

pub parts-preserved : goal.parts-preserved
parts-preserved c =
    let dot : is_at y.Dot (kinds c.parts.cursor) ≡ true = sym c.is_at.ensures ∙ c.parts-test.true in
    let read : identifier (drop 1 (kinds c.parts.cursor)) ≡ Ok (c.in_ok-next.next, kinds c.identifier.new.self) = ap identifier (sym c.skip.ensures) ∙ c.in_ok-next.ensures in
    let pushed : c.push.new.self ≡ c.parts.before ++ c.parts.last ∷ [] = search rules in
    c.parts.invariant ∙ static_more c.parts.before c.parts.last (kinds c.parts.cursor) c.in_ok-next.next (kinds c.identifier.new.self) dot read
    ∙ ap (λ (all : List Text). begun.static_imported all c.in_ok-next.next (kinds c.identifier.new.self)) (sym pushed)
