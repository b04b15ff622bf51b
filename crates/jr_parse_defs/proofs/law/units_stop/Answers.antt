use Rattle.jr_parse_defs.proofs.Stuck.{members_stuck, decls_stuck, units_stuck}
use Rattle.jr_parse_defs.proofs.law.units_stop.Goals as goal

pub returns-clause-members : goal.returns-clause-members
returns-clause-members c = members_stuck

pub returns-clause-decls : goal.returns-clause-decls
returns-clause-decls c = decls_stuck

pub returns-clause-units : goal.returns-clause-units
returns-clause-units c = units_stuck
