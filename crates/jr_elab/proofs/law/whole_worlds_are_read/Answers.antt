use Rattle.jr_elab.proofs.Readable.{world_is_read}
use Rattle.jr_elab.proofs.law.whole_worlds_are_read.Goals as goal

pub returns : goal.returns
returns c = world_is_read
