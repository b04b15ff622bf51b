-- Lists of rows out of other lists.
use Rattle.std.specs.Prelude.{ℕ, List}
use Rattle.std.specs.List.{All, Contains}

-- each item of the second list is one of the first
pub record IsWithin (all some : List ℕ) : Type 0 where
  pub each : All (Contains all) some
