use Rattle.std.proofs.Common.{rules, ◌≡◌, ◌∙◌, true, false, Ok, [], ◌∷◌, ◌++◌, drop}
use Rattle.jr_base.specs.declared.kind.Symbol.TheVariants as y
use Rattle.jr_parse_laws.specs.Parsers.{kinds, identifier, is_at}
use Rattle.jr_parse_laws.proofs.Outcomes.{reads_err}
use Rattle.jr_parse_expr.proofs.NameLaws.{name_more, name_fails, name_done}
use Rattle.jr_parse_expr.proofs.name.name_after.Goals as goal

pub returns-in_err-identifier : goal.returns-in_err-identifier
returns-in_err-identifier c =
    let begins : is_at y.Dot (kinds c.parts.cursor) ≡ true = cc in
    rw c.parts.invariant
    (reads_err _ _ c.from_residual-in_err-identifier.result c.in_err-identifier.field-0.0 (kinds c.identifier.new.self) (search rules)
    (name_fails c.parts.parts (kinds c.parts.cursor) c.in_err-identifier.field-0.0 (kinds c.identifier.new.self) begins (search rules)))

pub parts-preserved : goal.parts-preserved
parts-preserved c =
    let begins : is_at y.Dot (kinds c.parts.cursor) ≡ true = cc in
    let read : identifier (drop 1 (kinds c.parts.cursor)) ≡ Ok (c.in_ok-identifier.field-0, kinds c.identifier.new.self) = search rules in
    let pushed : c.push-in-parts.new.self ≡ c.parts.parts ++ c.in_ok-identifier.field-0 ∷ [] = search rules in
    rw (c.parts.invariant, pushed) (name_more c.parts.parts (kinds c.parts.cursor) c.in_ok-identifier.field-0 (kinds c.identifier.new.self) begins read)

pub returns : goal.returns
returns c =
    let over : is_at y.Dot (kinds c.parts.cursor) ≡ false = cc in
    c.parts.invariant ∙ name_done c.parts.parts (kinds c.parts.cursor) over
