use Rattle.std.proofs.Common.{sym, ◌∙◌, refl, true, false}
use Rattle.std.proofs.lemmas.Result.{IfOk-weaker, on_ok_weaker}
use Rattle.jr_codes.specs.Reads.{facts}
use Rattle.jr_elab.specs.Cores.{IsClassOf}
use Rattle.jr_elab.proofs.Each.{may_add, one_more}
use Rattle.jr_elab.proofs.classes.add_class.Goals as goal

pub returns-then-is_type_at : goal.returns-then-is_type_at
returns-then-is_type_at c = on_ok_weaker c.add_made.result
    (λ added whole. may_add (IsClassOf (facts c.args.source.now) c.args.at) true _ _ _ (sym c.if-is_type_at.true ∙ c.is_type_at.ensures)
    (one_more (IsClassOf (facts c.args.source.now) c.args.at) c.class.result _ _ added (IfOk-weaker c.class.result _ _ (λ class makes. makes whole) c.class.ensures))) c.add_made.ensures

pub returns-else-is_type_at : goal.returns-else-is_type_at
returns-else-is_type_at c = λ whole. may_add (IsClassOf (facts c.args.source.now) c.args.at) false _ _ _ (sym c.if-is_type_at.false ∙ c.is_type_at.ensures) refl
