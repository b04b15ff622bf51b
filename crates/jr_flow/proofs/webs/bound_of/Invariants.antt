use Rattle.std.proofs.Common.{◌≡◌, ◌<◌, ◌≤◌, ℕ, length, Some, slice_get}
use Rattle.jr_flow.specs.declared.point.Step.{Step}
use Rattle.jr_flow.proofs.webs.bound_of.Given as goal

abbrev pub invariant-loop-nth : goal.invariant-loop-nth
invariant-loop-nth l = (length l.points ≤ l.bound) × ((k : ℕ) (s : Step) → k < l.nth → slice_get l.steps k ≡ Some s → (s.from < l.bound) × (s.to < l.bound))
