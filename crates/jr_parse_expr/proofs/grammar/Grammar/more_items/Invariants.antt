use Rattle.std.proofs.Common.{◌≡◌, ◌≤◌, false, map, length}
use Rattle.jr_tree.specs.Mirror.Exprs.{plain_init}
use Rattle.jr_parse_laws.specs.Parsers.{kinds}
use Rattle.jr_parse_expr.specs.Exprs as spec
use Rattle.jr_parse_expr.specs.Steps.{with_items}
use Rattle.jr_parse_expr.proofs.grammar.Grammar.more_items.Given as goal

abbrev pub invariant-items : goal.invariant-items
invariant-items g l = record {
  same : with_items (map plain_init l.fn.front.items) (spec.after_item l.self.room (spec.expr l.self.room) (spec.list l.self.room) (kinds l.initial.cursor))
      ≡ with_items (map plain_init l.all.items) (spec.after_item l.self.room (spec.expr l.self.room) (spec.list l.self.room) (kinds l.cursor));
  low : l.all.height ≤ l.self.room;
  closed : l.all.is_open_ended ≡ false;
}

abbrev pub decreases-items : goal.decreases-items
decreases-items g l = length l.cursor.rest.now
