use Rattle.std.proofs.Common.{◌≡◌, map, length, true}
use Rattle.jr_tree.specs.Mirror.Exprs.{plain_expr}
use Rattle.jr_base.specs.declared.kind.Symbol.TheVariants as y
use Rattle.jr_parse_laws.specs.Parsers.{kinds, with_front, many, begins_with, after_comma}
use Rattle.jr_parse_expr.specs.Exprs.{Nothing, effect}
use Rattle.jr_parse_stmt.proofs.grammar.Grammar.more_effects.Given as goal

abbrev pub invariant-effects : goal.invariant-effects
invariant-effects g l =
    with_front (map plain_expr l.fn.front) (many (begins_with y.Comma) (after_comma (effect l.self.room Nothing)) (kinds l.initial.cursor))
    ≡ with_front (map plain_expr l.all) (many (begins_with y.Comma) (after_comma (effect l.self.room Nothing)) (kinds l.cursor))

abbrev pub decreases-effects : goal.decreases-effects
decreases-effects g l = length l.cursor.rest.now
