use Rattle.std.proofs.Common.{◌≡◌, map, length}
use Rattle.jr_base.specs.declared.kind.Symbol.TheVariants as y
use Rattle.jr_tree.specs.Mirror.Stmts.{plain_declarator}
use Rattle.jr_parse_laws.specs.Parsers.{kinds, with_front, many, begins_with, after_comma}
use Rattle.jr_parse_defs.specs.Stmts as spec
use Rattle.jr_parse_stmt.proofs.declarator.more_declarators.Given as goal

abbrev pub invariant-declarators : goal.invariant-declarators
invariant-declarators l =
    with_front (map plain_declarator l.fn.front) (many (begins_with y.Comma) (after_comma (spec.declarator l.room)) (kinds l.initial.cursor))
    ≡ with_front (map plain_declarator l.all) (many (begins_with y.Comma) (after_comma (spec.declarator l.room)) (kinds l.cursor))

abbrev pub decreases-declarators : goal.decreases-declarators
decreases-declarators l = length l.cursor.rest.now
