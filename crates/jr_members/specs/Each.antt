-- Lists that have each number once.
use Rattle.std.specs.Prelude.{◌≡◌, ℕ, ◌<◌, Bool, true, false, List, [], ◌∷◌, ◌++◌, if◌then◌else◌, ⊤}
use Rattle.jr_plain.specs.Search.{has, Lists}
use Rattle.jr_places.specs.declared.stamps.Stamps.{Stamps}
use Rattle.jr_places.specs.Stamps.{is_stamped, IsStamping}

-- no number stands twice
abbrev pub StandOnce : List ℕ → Type 0
StandOnce [] = ⊤
StandOnce (x ∷ xs) = (has xs x ≡ false) × StandOnce xs

-- the numbers of which P holds, each once
pub record ListsEach (all : List ℕ) (P : ℕ → Type 0) : Type 0 where
  pub once : StandOnce all
  pub lists : Lists all P

-- the number, where it is such
abbrev pub if_such : Bool → ℕ → List ℕ
if_such b d = if b then d ∷ [] else []

-- a number behind those that are there, unless it is one of them
abbrev pub with_new : List ℕ → ℕ → List ℕ
with_new all d = if has all d then all else all ++ d ∷ []

abbrev pub with_each : List ℕ → List ℕ → List ℕ
with_each all [] = all
with_each all (d ∷ more) = with_each (with_new all d) more

pub record AreBelow (bound : ℕ) (all : List ℕ) : Type 0 where
  pub each : (d : ℕ) → has all d ≡ true → d < bound

-- the stamped numbers are those of the list
pub record IsStampedAs (bound : ℕ) (stamps : Stamps) (all : List ℕ) : Type 0 where
  pub counted : IsStamping stamps bound
  pub same : (d : ℕ) → is_stamped stamps d ≡ has all d

-- the list is the target, and its items are stamped
pub record IsPushedAs (bound : ℕ) (stamps : Stamps) (all target : List ℕ) : Type 0 where
  pub stamped : IsStampedAs bound stamps all
  pub is : all ≡ target

-- the list is the target once the rest has been put behind it
pub record IsPushingEach (bound : ℕ) (stamps : Stamps) (all rest target : List ℕ) : Type 0 where
  pub stamped : IsStampedAs bound stamps all
  pub rest_is : with_each all rest ≡ target
  pub below : AreBelow bound rest
