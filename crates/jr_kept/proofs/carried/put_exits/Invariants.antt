use Rattle.std.proofs.Common.{◌≡◌, ◌⊎◌, ℕ, ◌<◌, Bool, true, false, slice_get}
use Rattle.std.specs.List.{Contains}
use Rattle.jr_flow.specs.Reached.{steps_of}
use Rattle.jr_kept.specs.Carried.{is_exit_at}
use Rattle.jr_kept.proofs.carried.put_exits.Given as goal

abbrev pub invariant-loop-number : goal.invariant-loop-number
invariant-loop-number l = (l.made.points.items ≡ l.fn.made.points.items) × ((i j : ℕ) (t : Bool) → Contains (steps_of l.fn.made) (i, j, t) → Contains (steps_of l.made) (i, j, t))
    × ((k : ℕ) → k < l.number → is_exit_at l.method l.is_throw (slice_get l.points k) ≡ true → Contains (steps_of l.made) (l.hub, k, false))
    × ((i j : ℕ) (t : Bool) → Contains (steps_of l.made) (i, j, t) → Contains (steps_of l.fn.made) (i, j, t) ⊎ ((i ≡ l.hub) × (is_exit_at l.method l.is_throw (slice_get l.points j) ≡ true)))
