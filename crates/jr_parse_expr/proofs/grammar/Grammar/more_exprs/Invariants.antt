use Rattle.std.proofs.Common.{◌≡◌, ◌≤◌, map, length}
use Rattle.jr_tree.specs.Mirror.Exprs.{plain_expr}
use Rattle.jr_parse_laws.specs.Parsers.{kinds, with_front}
use Rattle.jr_parse_expr.specs.Exprs as spec
use Rattle.jr_parse_expr.specs.Steps.{more_exprs}
use Rattle.jr_parse_expr.proofs.grammar.Grammar.more_exprs.Given as goal

abbrev pub invariant-exprs : goal.invariant-exprs
invariant-exprs g l = record {
  same : with_front (map plain_expr l.fn.front.args) (more_exprs (spec.expr l.self.room) (kinds l.initial.cursor)) ≡ with_front (map plain_expr l.all.args) (more_exprs (spec.expr l.self.room) (kinds l.cursor));
  low : l.all.height ≤ l.self.room;
}

abbrev pub decreases-exprs : goal.decreases-exprs
decreases-exprs g l = length l.cursor.rest.now
