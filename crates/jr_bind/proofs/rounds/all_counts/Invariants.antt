use Rattle.std.proofs.Common.{◌≡◌, [], length}
use Rattle.jr_bind.specs.Rounds.{AreEnough}
use Rattle.jr_bind.proofs.rounds.all_counts.Given as goal

abbrev pub invariant-loop-place : goal.invariant-loop-place
invariant-loop-place l = (length l.counts.items ≡ l.bound) × AreEnough l.edges [] [] l.counts.items l.place
