use Rattle.std.proofs.Common.{◌≡◌, length, []}
use Rattle.jr_parse_laws.specs.Parsers.{kinds}
use Rattle.jr_parse_expr.specs.Names as spec
use Rattle.jr_parse_expr.proofs.name.dotted_name.Given as goal

abbrev pub invariant-parts : goal.invariant-parts
invariant-parts l = spec.dotted l.has_level [] l.fn.head (kinds l.initial.cursor) ≡ spec.dotted l.has_level l.before l.last (kinds l.cursor)

abbrev pub decreases-parts : goal.decreases-parts
decreases-parts l = length l.cursor.rest.now
