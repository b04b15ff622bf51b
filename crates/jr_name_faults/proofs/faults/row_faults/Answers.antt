use Rattle.std.proofs.Common.{refl}
use Rattle.jr_rule.specs.declared.Rule.TheVariants as rule
use Rattle.jr_faults.proofs.Told.{none_then, then_none, only_then}
use Rattle.jr_name_faults.proofs.faults.row_faults.Goals as goal

pub returns-clause-open : goal.returns-clause-open
returns-clause-open c = λ p lt h. c.in_ok-local_faults.ensures.open p lt h

pub returns-clause-local_names : goal.returns-clause-local_names
returns-clause-local_names c = λ p lt h. then_none rule.LocalNames (then_none rule.LocalNames (then_none rule.LocalNames (c.in_ok-local_faults.ensures.names p lt h)
    (c.in_ok-import_faults.ensures.others.others rule.LocalNames refl)) (c.in_ok-access_fault.ensures.others.others rule.LocalNames refl)) (c.in_ok-static_fault.ensures.others.others rule.LocalNames refl)

pub returns-clause-labels : goal.returns-clause-labels
returns-clause-labels c = λ p lt h. then_none rule.Labels (then_none rule.Labels (then_none rule.Labels (c.in_ok-local_faults.ensures.labels p lt h)
    (c.in_ok-import_faults.ensures.others.others rule.Labels refl)) (c.in_ok-access_fault.ensures.others.others rule.Labels refl)) (c.in_ok-static_fault.ensures.others.others rule.Labels refl)

pub returns-clause-access : goal.returns-clause-access
returns-clause-access c = λ seen. none_then rule.Access (c.in_ok-local_faults.ensures.others.others rule.Access refl) (none_then rule.Access (c.in_ok-import_faults.ensures.others.others rule.Access refl)
    (then_none rule.Access (c.in_ok-access_fault.ensures.found seen) (c.in_ok-static_fault.ensures.others.others rule.Access refl)))

pub returns-clause-passed : goal.returns-clause-passed
returns-clause-passed c = λ p t lt h. c.in_ok-import_faults.ensures.open p t lt h

pub returns-clause-import_names : goal.returns-clause-import_names
returns-clause-import_names c = λ p t lt h. none_then rule.ImportNames (c.in_ok-local_faults.ensures.others.others rule.ImportNames refl)
    (then_none rule.ImportNames (then_none rule.ImportNames (c.in_ok-import_faults.ensures.names p t lt h) (c.in_ok-access_fault.ensures.others.others rule.ImportNames refl)) (c.in_ok-static_fault.ensures.others.others rule.ImportNames refl))

pub returns-clause-imported_types : goal.returns-clause-imported_types
returns-clause-imported_types c = λ p t lt h. none_then rule.ImportedTypes (c.in_ok-local_faults.ensures.others.others rule.ImportedTypes refl)
    (then_none rule.ImportedTypes (then_none rule.ImportedTypes (c.in_ok-import_faults.ensures.types p t lt h) (c.in_ok-access_fault.ensures.others.others rule.ImportedTypes refl)) (c.in_ok-static_fault.ensures.others.others rule.ImportedTypes refl))

pub returns-clause-static_imports : goal.returns-clause-static_imports
returns-clause-static_imports c = λ statics. none_then rule.StaticImports (c.in_ok-local_faults.ensures.others.others rule.StaticImports refl) (none_then rule.StaticImports (c.in_ok-import_faults.ensures.others.others rule.StaticImports refl)
    (none_then rule.StaticImports (c.in_ok-access_fault.ensures.others.others rule.StaticImports refl) (c.in_ok-static_fault.ensures.found _ statics)))

pub returns-clause-others : goal.returns-clause-others
returns-clause-others c = only_then (only_then (only_then c.in_ok-local_faults.ensures.others c.in_ok-import_faults.ensures.others) c.in_ok-access_fault.ensures.others) c.in_ok-static_fault.ensures.others
