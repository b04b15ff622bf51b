-- Origins as the code puts them together.
use Rattle.std.specs.Prelude.{◌≡◌, ℕ, Bool, List, ◌++◌, drop}
use Rattle.jr_change.specs.declared.change.Segment.{Segment}
use Rattle.jr_locks.specs.Origins.{origins, turned, rests}
use Rattle.jr_locks.specs.declared.origins.Origins.{Origins}

-- these come behind what was there
pub record Adds (old new : Origins) (from : List ℕ) (is_turned : List Bool) (rest : List ℕ) : Type 0 where
  pub origin : new.origin.items ≡ old.origin.items ++ from
  pub label : new.is_turned.items ≡ old.is_turned.items ++ is_turned
  pub behind : new.rest.items ≡ old.rest.items ++ rest

-- the rows of the segments before this one are there
pub record AreBegun (segments : List Segment) (all : Origins) (at : ℕ) : Type 0 where
  pub origin : all.origin.items ++ origins (drop at segments) ≡ origins segments
  pub label : all.is_turned.items ++ turned (drop at segments) ≡ turned segments
  pub behind : all.rest.items ++ rests (drop at segments) ≡ rests segments
