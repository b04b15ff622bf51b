use Rattle.std.proofs.Common.{◌∙◌, sym, ap₂}
use Rattle.jr_type_facts.specs.Facts.{rows_of, types_of}
use Rattle.jr_type_faults.specs.Parts.{does_not_fit}
use Rattle.jr_type_faults.proofs.Standing.{child_is, first_none, both_none}
use Rattle.jr_type_faults.proofs.values.first_does_not_fit.Goals as goal

pub returns-in-Some : goal.returns-in-Some
returns-in-Some c = λ right. let child = child_is (rows_of c.args.facts.now) (types_of c.args.facts.now) c.args.at c.in-Some.value (sym (c.first_child.ensures right.sized.few) ∙ c.in-Some.is) in
    c.does_not_fit.ensures right ∙ ap₂ (λ n a. does_not_fit c.args.facts.now n c.args.to a) child.0 (c.type_of.ensures ∙ sym child.1)

pub returns-in-None : goal.returns-in-None
returns-in-None c = λ right. let none = first_none (rows_of c.args.facts.now) (types_of c.args.facts.now) c.args.at (sym (c.first_child.ensures right.sized.few) ∙ c.in-None.is) in
    both_none c.args.to _ _ none
