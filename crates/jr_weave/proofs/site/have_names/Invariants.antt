use Rattle.std.proofs.Common.{◌≡◌, length}
use Rattle.jr_weave.specs.Pieces.{have_names}
use Rattle.jr_weave.proofs.site.have_names.Given as goal

abbrev pub decreases-loop-row : goal.decreases-loop-row
decreases-loop-row l = length l.rest

abbrev pub invariant-loop-row : goal.invariant-loop-row
invariant-loop-row l = have_names l.rows l.rest l.left ≡ have_names l.rows l.some l.names
