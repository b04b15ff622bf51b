use Rattle.jr_type_faults.proofs.Told.{adds_then, only_then, row_told}
use Rattle.jr_type_faults.proofs.faults.push_row.Goals as goal

pub returns-clause-exact : goal.returns-clause-exact
returns-clause-exact c = λ can small. row_told (adds_then (c.in_ok-push_any_contexts.ensures.exact can) (adds_then (c.in_ok-push_any_values.ensures.exact can) (c.in_ok-push_any_uses.ensures.exact can small)))

pub returns-clause-only : goal.returns-clause-only
returns-clause-only c = only_then c.in_ok-push_any_contexts.ensures.only (only_then c.in_ok-push_any_values.ensures.only c.in_ok-push_any_uses.ensures.only)
