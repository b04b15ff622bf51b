use Rattle.std.proofs.Common.{ℕ, List, drop}
use Rattle.jr_places.specs.declared.chains.Entry.{Entry}
use Rattle.jr_bind.specs.Rounds.{IsTaking}
use Rattle.jr_bind.proofs.rounds.take_edges.Given as goal

abbrev pub invariant-loop-at : goal.invariant-loop-at
invariant-loop-at l = (edges : List Entry) (bound : ℕ) (left : List ℕ) → IsTaking edges bound l.fn.met left l.fn.free.items l.all l.fn.counts.items → IsTaking edges bound l.met left l.free.items (drop l.at-index l.all) l.counts.items
