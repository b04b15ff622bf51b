use Rattle.std.proofs.Common.{◌≡◌, ◌≤◌, map, length}
use Rattle.jr_tree.specs.Mirror.Exprs.{plain_expr}
use Rattle.jr_parse_laws.specs.Parsers.{kinds}
use Rattle.jr_parse_expr.specs.Exprs as spec
use Rattle.jr_parse_expr.specs.Steps.{with_sizes}
use Rattle.jr_parse_expr.proofs.grammar.Grammar.sizes.Given as goal

abbrev pub invariant-sizes : goal.invariant-sizes
invariant-sizes g l = record {
  same : with_sizes (map plain_expr l.fn.front.args) (spec.sizes l.self.room (spec.expr l.self.room) (spec.list l.self.room) (kinds l.initial.cursor))
      ≡ with_sizes (map plain_expr l.all.args) (spec.sizes l.self.room (spec.expr l.self.room) (spec.list l.self.room) (kinds l.cursor));
  low : l.all.height ≤ l.self.room;
}

abbrev pub decreases-sizes : goal.decreases-sizes
decreases-sizes g l = length l.cursor.rest.now
