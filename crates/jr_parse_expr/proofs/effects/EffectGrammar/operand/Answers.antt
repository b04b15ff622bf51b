use Rattle.std.proofs.Common.{◌≡◌, sym, subst}
use Rattle.jr_tree.specs.Mirror.Exprs as x
use Rattle.jr_parse_laws.specs.Parsers.{Outcome, kinds}
use Rattle.jr_parse_expr.specs.declared.lead.Lead.{Lead}
use Rattle.jr_parse_expr.specs.Exprs as spec
use Rattle.jr_parse_expr.specs.Views.{plain_lead, ReadsExpr}
use Rattle.jr_parse_expr.proofs.Begins.{effect_is_new}
use Rattle.jr_parse_expr.proofs.effects.EffectGrammar.operand.Goals as goal

pub returns-in-Nothing-clause-reads : goal.returns-in-Nothing-clause-reads
returns-in-Nothing-clause-reads g c =
    subst (λ (l : Lead). ReadsExpr (spec.effect_operand c.args.self.now.inner.room (spec.expr c.args.self.now.inner.room) (spec.list c.args.self.now.inner.room) (spec.expr c.args.self.now.low.room) (spec.list c.args.self.now.low.room) (plain_lead l) (kinds c.args.cursor.now)) c.new_effect.result (kinds c.new_effect.new.cursor)) (sym c.in-Nothing.is)
    (subst (λ (o : Outcome x.Expr). ReadsExpr o c.new_effect.result (kinds c.new_effect.new.cursor)) (sym (effect_is_new c.args.self.now.inner.room (spec.expr c.args.self.now.inner.room) (spec.list c.args.self.now.inner.room) (spec.expr c.args.self.now.low.room) (spec.list c.args.self.now.low.room) c.args.self.now.low.room (kinds c.args.cursor.now) c.args.self.now.below))
    c.new_effect.ensures.reads)
