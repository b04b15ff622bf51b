use Rattle.std.proofs.Common.{◌∙◌, sym, subst, List}
use Rattle.jr_rule.specs.declared.Fault.{Fault}
use Rattle.jr_front.specs.Broken.{IsFirstBroken}
use Rattle.jr_front.specs.Tested.{AreFaultsIn}
use Rattle.jr_front.proofs.front.judge_rules.Goals as goal

pub returns-in-Some-clause-err : goal.returns-in-Some-clause-err
returns-in-Some-clause-err c = λ ordered testable. record {
  faults = c.in_ok-faults.faults.items;
  found = c.in_ok-faults.ensures ordered testable;
  first = subst (λ (l : List Fault). IsFirstBroken c.args.marks.now l (c.in-Some.rule, c.in-Some.place)) c.deref.ensures.value (c.in-Some.ensures.first ordered);
}

pub returns-clause-kept : goal.returns-clause-kept
returns-clause-kept c = λ ordered testable. subst (λ (l : List Fault). AreFaultsIn c.args.marks.now c.args.view.now l) (sym c.deref.ensures.value ∙ c.first_broken.ensures.none.0 c.in-None.is) (c.in_ok-faults.ensures ordered testable)
