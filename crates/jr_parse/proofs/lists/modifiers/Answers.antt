use Rattle.std.proofs.Common.{rules, ◌≡◌, ◌∙◌, sym, ap, List, Some, None, [], ◌∷◌, ◌++◌}
use Rattle.jr_tree.specs.declared.tree.Modifier.{Modifier}
use Rattle.jr_parse_laws.specs.Parsers.{kinds, with_front}
use Rattle.jr_parse_defs.specs.Decls as spec
use Rattle.jr_parse.specs.Begun.{modifier_at}
use Rattle.jr_parse.proofs.Turns.{modifiers_more, modifiers_done}
use Rattle.jr_parse.proofs.lists.modifiers.Goals as goal

pub modifiers-preserved : goal.modifiers-preserved
modifiers-preserved c =
    let comes : modifier_at (kinds c.modifiers.cursor) ≡ Some c.in-Some.modifier = search rules in
    let pushed : c.push.new.self ≡ c.modifiers.all ++ c.in-Some.modifier ∷ [] = search rules in
    c.modifiers.invariant ∙ modifiers_more c.modifiers.all (kinds c.modifiers.cursor) c.in-Some.modifier comes
    ∙ ap (with_front (c.modifiers.all ++ c.in-Some.modifier ∷ [])) (ap spec.modifiers (sym c.skip.ensures))
    ∙ ap (λ (all : List Modifier). with_front all (spec.modifiers (kinds c.skip.new.self))) (sym pushed)

pub returns : goal.returns
returns c =
    let over : modifier_at (kinds c.modifiers.cursor) ≡ None = search rules in
    c.modifiers.invariant ∙ modifiers_done c.modifiers.all (kinds c.modifiers.cursor) over
