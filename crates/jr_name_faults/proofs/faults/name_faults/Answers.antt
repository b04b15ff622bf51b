use Rattle.jr_name_faults.proofs.faults.name_faults.Goals as goal

pub returns-clause-local_names : goal.returns-clause-local_names
returns-clause-local_names c = λ right. c.all_faults.ensures.local_names (c.in_ok-locals.ensures right.placed right.few)

pub returns-clause-labels : goal.returns-clause-labels
returns-clause-labels c = λ right. c.all_faults.ensures.labels (c.in_ok-locals.ensures right.placed right.few)

pub returns-clause-access : goal.returns-clause-access
returns-clause-access c = λ right. c.all_faults.ensures.access right

pub returns-clause-import_names : goal.returns-clause-import_names
returns-clause-import_names c = λ right. c.all_faults.ensures.import_names (c.new-imports.ensures (record { few = right.few; placed = right.placed }))

pub returns-clause-imported_types : goal.returns-clause-imported_types
returns-clause-imported_types c = λ right. c.all_faults.ensures.imported_types (c.new-imports.ensures (record { few = right.few; placed = right.placed }))

pub returns-clause-static_imports : goal.returns-clause-static_imports
returns-clause-static_imports c = λ tabled. c.all_faults.ensures.static_imports (c.new-statics.ensures tabled)
