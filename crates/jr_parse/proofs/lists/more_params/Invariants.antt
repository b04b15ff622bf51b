use Rattle.std.proofs.Common.{◌≡◌, length}
use Rattle.jr_base.specs.declared.kind.Symbol.TheVariants as y
use Rattle.jr_parse_laws.specs.Parsers.{after_comma, begins_with, kinds, many, with_front}
use Rattle.jr_parse_defs.specs.Stmts as stmts
use Rattle.jr_parse.proofs.lists.more_params.Given as goal

abbrev pub invariant-params : goal.invariant-params
invariant-params l =
    with_front l.fn.front (many (begins_with y.Comma) (after_comma stmts.param) (kinds l.initial.cursor)) ≡ with_front l.all (many (begins_with y.Comma) (after_comma stmts.param) (kinds l.cursor))

abbrev pub decreases-params : goal.decreases-params
decreases-params l = length l.cursor.rest.now
