use Rattle.std.proofs.Common.{◌≡◌, map, length, true}
use Rattle.jr_tree.specs.Mirror.Stmts.{plain_label}
use Rattle.jr_parse_laws.specs.Parsers.{kinds, with_front, many}
use Rattle.jr_parse_expr.specs.Exprs.{next_token}
use Rattle.jr_parse_defs.specs.Begins.{starts_label}
use Rattle.jr_parse_defs.specs.Stmts as spec
use Rattle.jr_parse_stmt.specs.Nests.{in_room}
use Rattle.jr_parse_stmt.proofs.grammar.Grammar.labels.Given as goal

abbrev pub invariant-labels : goal.invariant-labels
invariant-labels g l =
    many starts_label (next_token (in_room spec.label_by l.self.room)) (kinds l.initial.cursor)
    ≡ with_front (map plain_label l.all) (many starts_label (next_token (in_room spec.label_by l.self.room)) (kinds l.cursor))

abbrev pub decreases-labels : goal.decreases-labels
decreases-labels g l = length l.cursor.rest.now
