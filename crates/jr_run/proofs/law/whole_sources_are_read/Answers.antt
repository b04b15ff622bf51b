use Rattle.jr_run.proofs.Ran.{source_placed, world_read}
use Rattle.jr_run.proofs.law.whole_sources_are_read.Goals as goal

pub returns-clause-placed : goal.returns-clause-placed
returns-clause-placed c = source_placed

pub returns-clause-world : goal.returns-clause-world
returns-clause-world c = world_read
