use Rattle.jr_local_rows.proofs.OfRows.{each_program_places_locals}
use Rattle.jr_local_rows.proofs.law.locals_stand_where_they_may.Goals as goal

pub returns : goal.returns
returns c = each_program_places_locals
