use Rattle.jr_parse_defs.proofs.Stuck.{stmts_stuck, bodies_stuck, ctors_stuck}
use Rattle.jr_parse_defs.proofs.law.statements_stop.Goals as goal

pub returns-clause-statements : goal.returns-clause-statements
returns-clause-statements c = stmts_stuck

pub returns-clause-bodies : goal.returns-clause-bodies
returns-clause-bodies c = bodies_stuck

pub returns-clause-ctors : goal.returns-clause-ctors
returns-clause-ctors c = ctors_stuck
