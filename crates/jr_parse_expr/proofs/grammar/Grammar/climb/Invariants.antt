use Rattle.std.proofs.Common.{◌≡◌, ◌≤◌, ◌-◌, suc}
use Rattle.jr_tree.specs.Mirror.Exprs.{plain_expr}
use Rattle.jr_parse_laws.specs.Parsers.{kinds}
use Rattle.jr_parse_expr.specs.Exprs as spec
use Rattle.jr_parse_expr.proofs.grammar.Grammar.climb.Given as goal

abbrev pub invariant-operators : goal.invariant-operators
invariant-operators g l = record {
  same : spec.climb l.self.room (spec.expr l.self.room) (spec.list l.self.room) l.least (plain_expr l.fn.operand.expr) (kinds l.initial.cursor)
      ≡ spec.climb l.self.room (spec.expr l.self.room) (spec.list l.self.room) l.least (plain_expr l.left.expr) (kinds l.cursor);
  low : l.left.height ≤ suc l.self.room;
}

abbrev pub decreases-operators : goal.decreases-operators
decreases-operators g l = suc l.self.room - l.left.height
