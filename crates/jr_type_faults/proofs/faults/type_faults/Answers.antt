use Rattle.jr_type_faults.proofs.faults.type_faults.Goals as goal

pub returns-clause-exact : goal.returns-clause-exact
returns-clause-exact c = λ right. c.in_ok-push_rows.ensures.exact (record { right = record { seen = right.seen; tables_are = c.in_ok-tables.ensures.right right.seen }; repeated = c.in_ok-tables.ensures.repeated right.seen; rounds = c.in_ok-tables.ensures.rounds right.calls; throwable = right.throwable })

pub returns-clause-only : goal.returns-clause-only
returns-clause-only c = c.in_ok-push_rows.ensures.only
