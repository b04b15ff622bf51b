use Rattle.std.proofs.Common.{◌∙◌, refl, sym}
use Rattle.jr_type_facts.proofs.Meeting.{default_not, unmet_default, met_default, was_default}
use Rattle.jr_type_facts.proofs.repeated.Met.meet_default.Goals as goal

pub returns-then-not-is_default-clause-met : goal.returns-then-not-is_default-clause-met
returns-then-not-is_default-clause-met c = λ constant types n tree lt h. unmet_default c.args.rows.now constant types n c.args.at _ (sym c.is_default.ensures ∙ c.if-not-is_default.true) h

pub returns-then-not-is_default-clause-told : goal.returns-then-not-is_default-clause-told
returns-then-not-is_default-clause-told c = λ constant types n tree lt h. default_not c.args.rows.now c.args.at (sym c.is_default.ensures ∙ c.if-not-is_default.true)

pub returns-clause-met : goal.returns-clause-met
returns-clause-met c = λ constant types n tree lt h. met_default c.args.rows.now constant types n c.args.at c.switch_of-over.result _ c.add.result _ c.switch_of-over.ensures (sym c.is_default.ensures ∙ c.if-not-is_default.false) h (c.add.ensures _ h.stamping) refl

pub returns-clause-told : goal.returns-clause-told
returns-clause-told c = λ constant types n tree lt h. was_default c.args.rows.now constant types n c.args.at c.switch_of-over.result c.args.self.now c.add.result _ c.switch_of-over.ensures (sym c.is_default.ensures ∙ c.if-not-is_default.false) tree lt h (c.add.ensures _ h.stamping)
