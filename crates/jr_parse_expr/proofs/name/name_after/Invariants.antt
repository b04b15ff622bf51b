use Rattle.std.proofs.Common.{◌≡◌, length}
use Rattle.jr_parse_laws.specs.Parsers.{kinds, with_front}
use Rattle.jr_parse_expr.specs.Names as spec
use Rattle.jr_parse_expr.proofs.name.name_after.Given as goal

abbrev pub invariant-parts : goal.invariant-parts
invariant-parts l = spec.name_after l.fn.head (kinds l.initial.cursor) ≡ spec.named_all (with_front l.parts (spec.parts (kinds l.cursor)))

abbrev pub decreases-parts : goal.decreases-parts
decreases-parts l = length l.cursor.rest.now
