use Rattle.jr_parse_defs.proofs.Bodies.{bodies_complete, bodies_sound, ctors_complete, ctors_sound}
use Rattle.jr_parse_defs.proofs.Readings.{stmts_complete, stmts_are_sound}
use Rattle.jr_parse_defs.proofs.law.statements_are_read.Goals as goal

pub returns-clause-complete : goal.returns-clause-complete
returns-clause-complete c = stmts_complete

pub returns-clause-sound : goal.returns-clause-sound
returns-clause-sound c = stmts_are_sound

pub returns-clause-bodies_complete : goal.returns-clause-bodies_complete
returns-clause-bodies_complete c = bodies_complete

pub returns-clause-bodies_sound : goal.returns-clause-bodies_sound
returns-clause-bodies_sound c = bodies_sound

pub returns-clause-ctors_complete : goal.returns-clause-ctors_complete
returns-clause-ctors_complete c = ctors_complete

pub returns-clause-ctors_sound : goal.returns-clause-ctors_sound
returns-clause-ctors_sound c = ctors_sound
