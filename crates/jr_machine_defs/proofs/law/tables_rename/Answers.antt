-- Each clause is a lemma.
use Rattle.jr_machine_defs.proofs.RenamedTables.{table_renames, copied}
use Rattle.jr_machine_defs.proofs.law.tables_rename.Goals as goal

pub returns-clause-renames : goal.returns-clause-renames
returns-clause-renames c = λ pairs h. table_renames pairs h

pub returns-clause-copies : goal.returns-clause-copies
returns-clause-copies c = λ pairs d copy e. copied pairs d copy e
