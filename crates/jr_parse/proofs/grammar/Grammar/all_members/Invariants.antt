use Rattle.std.proofs.Common.{◌≡◌, map, length}
use Rattle.jr_tree.specs.Mirror.Decls.{plain_member}
use Rattle.jr_parse_laws.specs.Parsers.{kinds, many, with_front}
use Rattle.jr_parse_defs.specs.Begins as begins
use Rattle.jr_parse_defs.specs.Decls as spec
use Rattle.jr_parse.proofs.grammar.Grammar.all_members.Given as goal

abbrev pub invariant-members : goal.invariant-members
invariant-members g l =
    many begins.starts_member (spec.member l.self.room) (kinds l.initial.cursor) ≡ with_front (map plain_member l.all) (many begins.starts_member (spec.member l.self.room) (kinds l.cursor))

abbrev pub decreases-members : goal.decreases-members
decreases-members g l = length l.cursor.rest.now
