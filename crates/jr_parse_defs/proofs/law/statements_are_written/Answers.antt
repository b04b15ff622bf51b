use Rattle.jr_parse_defs.proofs.Written.{stmt_written, unit_written}
use Rattle.jr_parse_defs.proofs.law.statements_are_written.Goals as goal

pub returns-clause-statements : goal.returns-clause-statements
returns-clause-statements c = stmt_written

pub returns-clause-units : goal.returns-clause-units
returns-clause-units c = unit_written
