use Rattle.std.proofs.Common.{length}
use Rattle.jr_runs.proofs.Casts.{FitsTo}
use Rattle.jr_runs.proofs.suiting.fits_casts.Given as goal

abbrev pub decreases-loop-after : goal.decreases-loop-after
decreases-loop-after l = length l.rest

abbrev pub invariant-loop-after : goal.invariant-loop-after
invariant-loop-after l = FitsTo l.rows l.row l.fn.first l.casts l.next l.rest
