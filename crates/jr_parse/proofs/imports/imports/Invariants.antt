use Rattle.std.proofs.Common.{◌≡◌, length}
use Rattle.jr_parse_laws.specs.Parsers.{kinds, many, with_front}
use Rattle.jr_parse_starts.specs.Starts.{next_is}
use Rattle.jr_parse_defs.specs.Begins.{is_import}
use Rattle.jr_parse_defs.specs.Decls as spec
use Rattle.jr_parse.proofs.imports.imports.Given as goal

abbrev pub invariant-imports : goal.invariant-imports
invariant-imports l = many (next_is is_import) spec.import_decl (kinds l.initial.cursor) ≡ with_front l.all (many (next_is is_import) spec.import_decl (kinds l.cursor))

abbrev pub decreases-imports : goal.decreases-imports
decreases-imports l = length l.cursor.rest.now
