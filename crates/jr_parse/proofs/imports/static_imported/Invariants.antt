use Rattle.std.proofs.Common.{◌≡◌, length, []}
use Rattle.jr_parse_laws.specs.Parsers.{kinds}
use Rattle.jr_parse.specs.Importing as begun
use Rattle.jr_parse.proofs.imports.static_imported.Given as goal

abbrev pub invariant-parts : goal.invariant-parts
invariant-parts l = begun.static_imported [] l.fn.head (kinds l.initial.cursor) ≡ begun.static_imported l.before l.last (kinds l.cursor)

abbrev pub decreases-parts : goal.decreases-parts
decreases-parts l = length l.cursor.rest.now
