use Rattle.std.proofs.Common.{◌≡◌, map, length, true}
use Rattle.jr_tree.specs.Mirror.Stmts.{plain_group}
use Rattle.jr_parse_laws.specs.Parsers.{kinds, with_front, many}
use Rattle.jr_parse_defs.specs.Begins.{starts_label}
use Rattle.jr_parse_defs.specs.Stmts as spec
use Rattle.jr_parse_stmt.specs.Nests.{in_room}
use Rattle.jr_parse_stmt.proofs.grammar.Grammar.groups.Given as goal

abbrev pub invariant-groups : goal.invariant-groups
invariant-groups g l =
    many starts_label (in_room spec.group l.self.room) (kinds l.initial.cursor)
    ≡ with_front (map plain_group l.all) (many starts_label (in_room spec.group l.self.room) (kinds l.cursor))

abbrev pub decreases-groups : goal.decreases-groups
decreases-groups g l = length l.cursor.rest.now
