use Rattle.jr_headed.proofs.Programs.{headed_programs}
use Rattle.jr_headed.proofs.law.programs_are_headed.Goals as goal

pub returns : goal.returns
returns c = headed_programs
