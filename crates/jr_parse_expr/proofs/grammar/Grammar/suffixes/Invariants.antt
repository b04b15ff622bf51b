use Rattle.std.proofs.Common.{◌≡◌, ◌≤◌, ◌-◌, suc}
use Rattle.jr_tree.specs.Mirror.Exprs.{plain_expr}
use Rattle.jr_parse_laws.specs.Parsers.{kinds}
use Rattle.jr_parse_expr.specs.Exprs as spec
use Rattle.jr_parse_expr.proofs.grammar.Grammar.suffixes.Given as goal

abbrev pub invariant-suffixes : goal.invariant-suffixes
invariant-suffixes g l = record {
  same : spec.suffixes l.self.room (spec.expr l.self.room) (spec.list l.self.room) (plain_expr l.fn.operand.expr) (kinds l.initial.cursor)
      ≡ spec.suffixes l.self.room (spec.expr l.self.room) (spec.list l.self.room) (plain_expr l.left.expr) (kinds l.cursor);
  low : l.left.height ≤ suc l.self.room;
}

abbrev pub decreases-suffixes : goal.decreases-suffixes
decreases-suffixes g l = suc l.self.room - l.left.height
