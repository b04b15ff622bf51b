use Rattle.std.proofs.Common.{◌≡◌, true, length}
use Rattle.jr_engine.specs.Requested.{are_kept}
use Rattle.jr_engine.proofs.kept.are_kept.Given as goal

abbrev pub invariant-loop-more : goal.invariant-loop-more
invariant-loop-more l = are_kept l.rest l.number l.more ≡ true → are_kept l.units l.first l.changed ≡ true

abbrev pub decreases-loop-more : goal.decreases-loop-more
decreases-loop-more l = length l.more
