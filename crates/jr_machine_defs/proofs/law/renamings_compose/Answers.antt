-- Each clause is a lemma.
use Rattle.jr_machine_defs.proofs.RenamedTwice.{composed, twice_core, nothing_renamed, stays_core}
use Rattle.jr_machine_defs.proofs.law.renamings_compose.Goals as goal

pub returns-clause-map : goal.returns-clause-map
returns-clause-map c = λ f g p q. composed f g p q

pub returns-clause-core : goal.returns-clause-core
returns-clause-core c = λ f g core. twice_core f g core

pub returns-clause-no_map : goal.returns-clause-no_map
returns-clause-no_map c = nothing_renamed

pub returns-clause-no_core : goal.returns-clause-no_core
returns-clause-no_core c = λ core. stays_core core
