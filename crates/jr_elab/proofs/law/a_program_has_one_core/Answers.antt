use Rattle.jr_elab.proofs.OneCode.{code_once}
use Rattle.jr_elab.proofs.OneCore.{core_once}
use Rattle.jr_elab.proofs.law.a_program_has_one_core.Goals as goal

pub returns-clause-code : goal.returns-clause-code
returns-clause-code c = code_once

pub returns-clause-core : goal.returns-clause-core
returns-clause-core c = core_once
