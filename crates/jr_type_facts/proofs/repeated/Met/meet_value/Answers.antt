use Rattle.std.proofs.Common.{◌≡◌, ◌∙◌, sym, ap, subst, rules, w64, to_z, of_z}
use Rattle.jr_type_facts.specs.Views.{rows_in, types_in, constants_in}
use Rattle.jr_type_facts.specs.Cases.{PutsNumber, was_number}
use Rattle.jr_type_facts.proofs.Meeting.{met_none, met_some, was_met, repeated_none}
use Rattle.jr_type_facts.proofs.repeated.Met.meet_value.Goals as goal

pub returns-in_default-clause-met : goal.returns-in_default-clause-met
returns-in_default-clause-met c = λ few small h. met_none (rows_in c.args.view.now) (constants_in c.args.view.now) (types_in c.args.view.now) c.args.at _ (sym (c.case_number.ensures few small) ∙ c.in_default.is) h

pub returns-in_default-clause-told : goal.returns-in_default-clause-told
returns-in_default-clause-told c = λ few small h. repeated_none (rows_in c.args.view.now) (constants_in c.args.view.now) (types_in c.args.view.now) c.args.at (sym (c.case_number.ensures few small) ∙ c.in_default.is)

pub returns-clause-met : goal.returns-clause-met
returns-clause-met c = λ few small h. let same : to_z w64 (of_z w64 c.in-Some.number) ≡ c.in-Some.number = search rules in met_some (rows_in c.args.view.now) (constants_in c.args.view.now) (types_in c.args.view.now) c.args.at c.in-Some.number c.switch_of-over.result c.args.self.now _ c.args.at
    (sym (c.case_number.ensures few small) ∙ c.in-Some.is) c.switch_of-over.ensures h (subst (λ z. PutsNumber c.switch_of-over.result z c.args.at c.args.self.now c.meet_number.new.self) same c.in_ok-is_met.ensures.met)

pub returns-clause-told : goal.returns-clause-told
returns-clause-told c = λ few small h. let same : to_z w64 (of_z w64 c.in-Some.number) ≡ c.in-Some.number = search rules in c.in_ok-is_met.ensures.told ∙ ap (was_number c.args.self.now c.switch_of-over.result) same ∙ was_met (rows_in c.args.view.now) (constants_in c.args.view.now) (types_in c.args.view.now) c.args.at c.in-Some.number c.switch_of-over.result c.args.self.now
    (sym (c.case_number.ensures few small) ∙ c.in-Some.is) c.switch_of-over.ensures h
