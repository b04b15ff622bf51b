use Rattle.std.proofs.Common.{◌≡◌, map, length, true}
use Rattle.jr_tree.specs.Mirror.Stmts.{plain_stmt}
use Rattle.jr_parse_laws.specs.Parsers.{kinds, with_front, many}
use Rattle.jr_parse_defs.specs.Begins.{starts_block_stmt}
use Rattle.jr_parse_defs.specs.Stmts as spec
use Rattle.jr_parse_stmt.proofs.grammar.Grammar.more_stmts.Given as goal

abbrev pub invariant-stmts : goal.invariant-stmts
invariant-stmts g l =
    with_front (map plain_stmt l.fn.front) (many starts_block_stmt (spec.stmt l.self.room true) (kinds l.initial.cursor))
    ≡ with_front (map plain_stmt l.all) (many starts_block_stmt (spec.stmt l.self.room true) (kinds l.cursor))

abbrev pub decreases-stmts : goal.decreases-stmts
decreases-stmts g l = length l.cursor.rest.now
