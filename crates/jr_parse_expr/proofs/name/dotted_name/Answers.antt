use Rattle.std.proofs.Common.{rules, ◌≡◌, true, false, Ok, [], ◌∷◌, ◌++◌, drop}
use Rattle.jr_base.specs.declared.kind.Symbol.TheVariants as y
use Rattle.jr_base.specs.declared.kind.Keyword.TheVariants as word
use Rattle.jr_parse_laws.specs.Parsers.{kinds, identifier, is_at, is_at_word}
use Rattle.jr_parse_laws.proofs.Outcomes.{reads_err}
use Rattle.jr_parse_expr.proofs.NameLaws.{dotted_more, dotted_fails}
use Rattle.jr_parse_expr.proofs.name.dotted_name.Goals as goal

pub returns-in_err-next : goal.returns-in_err-next
returns-in_err-next c =
    let begins : is_at y.Dot (kinds c.parts.cursor) ≡ true = cc in
    let other : is_at_word word.This (drop 1 (kinds c.parts.cursor)) ≡ false = cc in
    rw c.parts.invariant
    (reads_err _ _ c.from_residual.result c.in_err-next.field-0.0 (kinds c.identifier.new.self) (search rules)
    (dotted_fails c.args.has_level c.parts.before c.parts.last (kinds c.parts.cursor) c.in_err-next.field-0.0 (kinds c.identifier.new.self) begins other (search rules)))

pub parts-preserved : goal.parts-preserved
parts-preserved c =
    let begins : is_at y.Dot (kinds c.parts.cursor) ≡ true = cc in
    let read : identifier (drop 1 (kinds c.parts.cursor)) ≡ Ok (c.in_ok-next.next, kinds c.identifier.new.self) = search rules in
    let pushed : c.push.new.self ≡ c.parts.before ++ c.parts.last ∷ [] = search rules in
    rw (c.parts.invariant, pushed) (dotted_more c.args.has_level c.parts.before c.parts.last (kinds c.parts.cursor) c.in_ok-next.next (kinds c.identifier.new.self) begins read)
