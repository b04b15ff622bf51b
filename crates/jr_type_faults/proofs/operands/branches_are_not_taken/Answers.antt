use Rattle.std.proofs.Common.{◌∙◌, sym, ap}
use Rattle.jr_rules.specs.TypedTests.{found}
use Rattle.jr_type_faults.specs.Parts.{is_not_taken_after}
use Rattle.jr_type_faults.proofs.operands.branches_are_not_taken.Goals as goal

pub returns-in-Some : goal.returns-in-Some
returns-in-Some c = λ right. let is = sym (c.second.ensures right.sized.few) ∙ c.in-Some.is in c.is_not_taken_after.ensures right is ∙ sym (ap (λ o. found o (λ a. is_not_taken_after c.args.facts.now c.args.at a)) is)

pub returns-in-None : goal.returns-in-None
returns-in-None c = λ right. let is = sym (c.second.ensures right.sized.few) ∙ c.in-None.is in sym (ap (λ o. found o (λ a. is_not_taken_after c.args.facts.now c.args.at a)) is)
