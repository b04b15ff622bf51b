-- Rows under keys, of which those that follow each other are different.
use Rattle.std.specs.Prelude.{◌≡◌, ℕ, Bool, false, not, ◌||◌, if◌then◌else◌, List, [], ◌∷◌, ◌++◌, nat_eq, ⊤}
use Rattle.jr_plain.specs.Search.{Lists}
use Rattle.jr_places.specs.declared.chains.Entry.{Entry}
use Rattle.jr_supers.specs.Above.{is_some_item}
use Rattle.jr_members.specs.Keys.{entry_for}
use Rattle.jr_members.specs.Named.{under}

-- the row stands first
abbrev pub is_front : List ℕ → ℕ → Bool
is_front [] r = false
is_front (x ∷ more) r = nat_eq x r

-- another row stands first, or any behind it
abbrev pub has_other : List ℕ → ℕ → Bool
has_other [] r = false
has_other (x ∷ more) r = not (nat_eq x r) || is_some_item more

-- one more row under a key, unless it stands there last, which is first from the last back
abbrev pub with_twin : List Entry → ℕ → ℕ → ℕ → List Entry
with_twin all c x r = if is_front (under all c x) r then all else all ++ entry_for c x r ∷ []

abbrev pub Differ : List ℕ → Type 0
Differ [] = ⊤
Differ (x ∷ more) = (is_front more x ≡ false) × Differ more

-- under each key stand the rows of which P holds
pub record AreTwins (all : List Entry) (P : ℕ → ℕ → ℕ → Type 0) : Type 0 where
  pub lists : (c x : ℕ) → Lists (under all c x) (P c x)
  pub apart : (c x : ℕ) → Differ (under all c x)
