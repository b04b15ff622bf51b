use Rattle.std.proofs.Common.{◌≡◌, ℕ, length}
use Rattle.jr_places.specs.Stamps.{IsStamping}
use Rattle.jr_bind.specs.Rounds.{AreEdges, AreCounts}
use Rattle.jr_bind.proofs.LeftOut.{AreNone}
use Rattle.jr_bind.proofs.rounds.first_in.Given as goal

abbrev pub invariant-loop-place : goal.invariant-loop-place
invariant-loop-place l = IsStamping l.met (length l.fn.met.stamps.items)
    × ((bound : ℕ) → length l.fn.met.stamps.items ≡ bound → AreEdges l.edges bound → AreCounts l.edges bound l.counts → AreNone l.edges l.place)
