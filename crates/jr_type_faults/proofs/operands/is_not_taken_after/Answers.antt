use Rattle.std.proofs.Common.{◌∙◌, sym, ap}
use Rattle.jr_rules.specs.TypedTests.{found}
use Rattle.jr_type_faults.specs.Parts.{are_no_branches}
use Rattle.jr_type_faults.proofs.operands.is_not_taken_after.Goals as goal

pub returns-in-Some : goal.returns-in-Some
returns-in-Some c = λ right left. let is = sym (c.third.ensures right.sized.few) ∙ c.in-Some.is in c.are_no_branches.ensures right left is ∙ sym (ap (λ o. found o (λ b. are_no_branches c.args.facts.now c.args.at c.args.left b)) is)

pub returns-in-None : goal.returns-in-None
returns-in-None c = λ right left. let is = sym (c.third.ensures right.sized.few) ∙ c.in-None.is in sym (ap (λ o. found o (λ b. are_no_branches c.args.facts.now c.args.at c.args.left b)) is)
