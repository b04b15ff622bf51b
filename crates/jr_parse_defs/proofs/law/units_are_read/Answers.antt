use Rattle.jr_parse_defs.proofs.Units.{members_complete, members_are_sound, decls_complete, decls_sound}
use Rattle.jr_parse_defs.proofs.Imports.{units_complete, units_sound}
use Rattle.jr_parse_defs.proofs.law.units_are_read.Goals as goal

pub returns-clause-members_complete : goal.returns-clause-members_complete
returns-clause-members_complete c = members_complete

pub returns-clause-members_sound : goal.returns-clause-members_sound
returns-clause-members_sound c = members_are_sound

pub returns-clause-decls_complete : goal.returns-clause-decls_complete
returns-clause-decls_complete c = decls_complete

pub returns-clause-decls_sound : goal.returns-clause-decls_sound
returns-clause-decls_sound c = decls_sound

pub returns-clause-complete : goal.returns-clause-complete
returns-clause-complete c = units_complete

pub returns-clause-sound : goal.returns-clause-sound
returns-clause-sound c = units_sound
