use Rattle.jr_name_faults.proofs.faults.all_faults.Goals as goal

pub returns-clause-local_names : goal.returns-clause-local_names
returns-clause-local_names c = λ known. c.put_faults.ensures.local_names (c.in_ok-add_parameters.ensures _ known)

pub returns-clause-labels : goal.returns-clause-labels
returns-clause-labels c = λ known. c.put_faults.ensures.labels (c.in_ok-add_parameters.ensures _ known)

pub returns-clause-access : goal.returns-clause-access
returns-clause-access c = λ seen. c.put_faults.ensures.access seen

pub returns-clause-import_names : goal.returns-clause-import_names
returns-clause-import_names c = λ known. c.put_faults.ensures.import_names (c.in_ok-add_rows.ensures _ _ known)

pub returns-clause-imported_types : goal.returns-clause-imported_types
returns-clause-imported_types c = λ known. c.put_faults.ensures.imported_types (c.in_ok-add_rows.ensures _ _ known)

pub returns-clause-static_imports : goal.returns-clause-static_imports
returns-clause-static_imports c = λ known. c.put_faults.ensures.static_imports (c.in_ok-add_rows-2.ensures _ known)
