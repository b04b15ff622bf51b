use Rattle.std.proofs.Common.{◌≡◌, map, length}
use Rattle.jr_tree.specs.Mirror.Decls.{plain_decl}
use Rattle.jr_parse_laws.specs.Parsers.{kinds, many, with_front, ◌>>=◌}
use Rattle.jr_parse_defs.specs.Begins as begins
use Rattle.jr_parse_defs.specs.Decls as spec
use Rattle.jr_parse.proofs.unit.decls.Given as goal

abbrev pub invariant-decls : goal.invariant-decls
invariant-decls l =
    many begins.starts_decl (spec.modifiers >>= spec.decl l.room) (kinds l.initial.cursor) ≡ with_front (map plain_decl l.all) (many begins.starts_decl (spec.modifiers >>= spec.decl l.room) (kinds l.cursor))

abbrev pub decreases-decls : goal.decreases-decls
decreases-decls l = length l.cursor.rest.now
