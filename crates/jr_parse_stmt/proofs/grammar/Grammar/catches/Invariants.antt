use Rattle.std.proofs.Common.{◌≡◌, map, length, true}
use Rattle.jr_tree.specs.Mirror.Stmts.{plain_catch}
use Rattle.jr_parse_laws.specs.Parsers.{kinds, with_front, many}
use Rattle.jr_parse_starts.specs.Starts.{next_is}
use Rattle.jr_parse_defs.specs.Begins.{is_catch}
use Rattle.jr_parse_defs.specs.Stmts as spec
use Rattle.jr_parse_stmt.specs.Nests.{in_room}
use Rattle.jr_parse_stmt.proofs.grammar.Grammar.catches.Given as goal

abbrev pub invariant-catches : goal.invariant-catches
invariant-catches g l =
    many (next_is is_catch) (in_room spec.catch_clause l.self.room) (kinds l.initial.cursor)
    ≡ with_front (map plain_catch l.all) (many (next_is is_catch) (in_room spec.catch_clause l.self.room) (kinds l.cursor))

abbrev pub decreases-catches : goal.decreases-catches
decreases-catches g l = length l.cursor.rest.now
