use Rattle.std.proofs.Common.{◌≡◌, length}
use Rattle.jr_base.specs.declared.kind.Symbol.TheVariants as y
use Rattle.jr_parse_laws.specs.Parsers.{after_comma, begins_with, kinds, many, with_front}
use Rattle.jr_parse_expr.specs.Names as reader
use Rattle.jr_parse.proofs.lists.more_names.Given as goal

abbrev pub invariant-names : goal.invariant-names
invariant-names l =
    with_front l.fn.front (many (begins_with y.Comma) (after_comma reader.name) (kinds l.initial.cursor)) ≡ with_front l.all (many (begins_with y.Comma) (after_comma reader.name) (kinds l.cursor))

abbrev pub decreases-names : goal.decreases-names
decreases-names l = length l.cursor.rest.now
