use Rattle.jr_read.proofs.Limits.{files_small}
use Rattle.jr_read.proofs.law.read_files_are_small.Goals as goal

pub returns : goal.returns
returns c = files_small
