-- Which unit is the first that does not stand at its place (JLS 7.2.1, 7.6).
use Rattle.std.specs.Prelude.{◌≡◌, ℕ, ◌+◌, ◌<◌, ◌^◌, List, [], ◌∷◌, ◌++◌, Contains, codes, length}
use Rattle.jr_base.specs.declared.ids.CuId.{CuId}
use Rattle.jr_defs.specs.declared.program.UnitAt.{UnitAt}
use Rattle.jr_defs.specs.Program.{IsUnitPlaced, AllPlaced}

-- what is behind the folder of a package is the name of a file, without its ending
pub record IsFileName (rest file : List ℕ) : Type 0 where
  pub plain_file : Contains file 47 → ⊥
  pub stands : rest ≡ file ++ codes ".java"

-- of these units, the first of which has the number from, the first that does not stand at its place; a number past 2^32 cannot be told
pub record IsFirstMisplaced (from : ℕ) (units : List UnitAt) (cu : CuId) : Type 0 where
  pub before : List UnitAt
  pub misplaced : UnitAt
  pub after : List UnitAt
  pub split : units ≡ before ++ misplaced ∷ after
  pub placed : AllPlaced before
  pub is_not : IsUnitPlaced misplaced → ⊥
  pub number : from + length before < 2 ^ 32 → cu.0 ≡ from + length before

-- the first unit behind the two of the prelude that does not stand at its place; where the prelude is not there, the number of the first unit that lacks
abbrev pub IsFirstMisplacedOf : List UnitAt → CuId → Type 0
IsFirstMisplacedOf (lang ∷ (io ∷ units)) cu = IsFirstMisplaced 2 units cu
IsFirstMisplacedOf (lang ∷ []) cu = cu.0 ≡ 1
IsFirstMisplacedOf [] cu = cu.0 ≡ 0
