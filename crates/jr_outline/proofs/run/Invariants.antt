use Rattle.std.proofs.Common.{length}
use Rattle.jr_outline.proofs.run.Given as goal

abbrev pub decreases-loop-end : goal.decreases-loop-end
decreases-loop-end l = length l.rest
