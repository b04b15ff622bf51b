use Rattle.std.proofs.Common.{refl}
use Rattle.jr_rule.specs.declared.Rule.TheVariants as rule
use Rattle.jr_faults.proofs.Told.{none_then, then_none, only_then}
use Rattle.jr_name_faults.proofs.faults.scope_faults.Goals as goal

pub returns-clause-open : goal.returns-clause-open
returns-clause-open c = λ p lt h. c.in_ok-declare.ensures p lt h

pub returns-clause-names : goal.returns-clause-names
returns-clause-names c = λ p lt h. then_none rule.LocalNames (c.in_ok-name_fault.ensures.found p lt h) (c.in_ok-label_fault.ensures.others.others rule.LocalNames refl)

pub returns-clause-labels : goal.returns-clause-labels
returns-clause-labels c = λ p lt h. none_then rule.Labels (c.in_ok-name_fault.ensures.others.others rule.Labels refl) (c.in_ok-label_fault.ensures.found p lt h)

pub returns-clause-others : goal.returns-clause-others
returns-clause-others c = only_then c.in_ok-name_fault.ensures.others c.in_ok-label_fault.ensures.others
