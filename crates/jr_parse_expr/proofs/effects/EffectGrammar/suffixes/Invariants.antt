use Rattle.std.proofs.Common.{◌≡◌, ◌≤◌, ◌-◌, suc}
use Rattle.jr_tree.specs.Mirror.Exprs.{plain_expr}
use Rattle.jr_parse_laws.specs.Parsers.{kinds}
use Rattle.jr_parse_expr.specs.Exprs as spec
use Rattle.jr_parse_expr.proofs.effects.EffectGrammar.suffixes.Given as goal

abbrev pub invariant-suffixes : goal.invariant-suffixes
invariant-suffixes g l = record {
  same : spec.effect_suffixes l.self.inner.room (spec.expr l.self.inner.room) (spec.list l.self.inner.room) (spec.expr l.self.low.room) (spec.list l.self.low.room) (plain_expr l.fn.operand.expr) (kinds l.initial.cursor)
      ≡ spec.effect_suffixes l.self.inner.room (spec.expr l.self.inner.room) (spec.list l.self.inner.room) (spec.expr l.self.low.room) (spec.list l.self.low.room) (plain_expr l.left.expr) (kinds l.cursor);
  low : l.left.height ≤ suc l.self.inner.room;
}

abbrev pub decreases-suffixes : goal.decreases-suffixes
decreases-suffixes g l = suc l.self.inner.room - l.left.height
