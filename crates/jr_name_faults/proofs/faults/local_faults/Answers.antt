use Rattle.jr_name_faults.proofs.faults.local_faults.Goals as goal

pub returns-clause-open : goal.returns-clause-open
returns-clause-open c = λ p lt h. c.in_ok-any_scope_faults.ensures.open p lt (c.in_ok-enter.ensures p lt h)

pub returns-clause-names : goal.returns-clause-names
returns-clause-names c = λ p lt h. c.in_ok-any_scope_faults.ensures.names p lt (c.in_ok-enter.ensures p lt h)

pub returns-clause-labels : goal.returns-clause-labels
returns-clause-labels c = λ p lt h. c.in_ok-any_scope_faults.ensures.labels p lt (c.in_ok-enter.ensures p lt h)
