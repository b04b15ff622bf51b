-- The files as a crash or a read sees them, and what calls of a store do to them.
use Rattle.std.specs.Prelude.{◌≡◌, ◌≢◌, ◌⊎◌, ℕ, ◌+◌, ◌-◌, ◌^◌, ◌<◌, ◌≤◌, min, List, length, take, Contains, Option, Some, None, option_map, IsSome, IsTrue, Result, OnErr, IsErrOf}
use Rattle.std.specs.List.{AllByRecursion}
use Rattle.jr_base.specs.Paths.{is_java}
use Rattle.jr_store.specs.declared.store.StoreError.{StoreError}
use Rattle.jr_store.specs.declared.store.StoreError.TheVariants.{Failed}

-- what each path holds, and `None` where there is no such file
abbrev pub Image : Type 0
Image = List ℕ → Option (List ℕ)

-- old and new differ at this path at most, where new may hold any bytes or be absent
abbrev pub ChangesOnly : List ℕ → Image → Image → Type 0
ChangesOnly path old new = (q : List ℕ) → q ≢ path → new q ≡ old q

-- new is old with this side at this path
abbrev pub Puts : List ℕ → Option (List ℕ) → Image → Image → Type 0
Puts path side old new = (new path ≡ side) × ChangesOnly path old new

-- A store that tells its files still tells them, changed so. One that doesn't tell doesn't begin to.
abbrev pub Tells : Option Image → Option Image → (Image → Image → Type 0) → Type 0
Tells None None R = Unit {0}
Tells None (Some g) R = ⊥
Tells (Some f) None R = ⊥
Tells (Some f) (Some g) R = R f g

abbrev pub AreJava : List (List ℕ) → Type 0
AreJava paths = AllByRecursion (λ p. IsTrue (is_java p)) paths

-- each listed path is a file, and fewer than most are all
abbrev pub Lists : Option Image → ℕ → List (List ℕ) → Type 0
Lists None most paths = Unit {0}
Lists (Some f) most paths = ((p : List ℕ) → Contains paths p → IsSome (f p)) × (length paths < most → (p : List ℕ) → IsTrue (is_java p) → IsSome (f p) → Contains paths p)

abbrev pub Reads : Option Image → List ℕ → ℕ → Option (List ℕ) → Type 0
Reads None path most found = Unit {0}
Reads (Some f) path most found = found ≡ option_map (take most) (f path)

-- each new outcome of a crash is an old outcome after a step
abbrev pub Follows : (Image → Image → Type 0) → (Image → Type 0) → (Image → Type 0) → Type 0
Follows step old new = (c : Image) → new c → (d : Image) × old d × step d c

-- a crash leaves what is told and nothing else
abbrev pub OnlyTold : Option Image → (Image → Type 0) → Type 0
OnlyTold None outcomes = Unit {0}
OnlyTold (Some f) outcomes = (c : Image) → outcomes c → c ≡ f

-- Time goes on: a crash since t might have left what it might have left before, or what it may leave now.
pub record Elapses (before now : ℕ) (past since : ℕ → Image → Type 0) (may_leave : Image → Type 0) : Type 0 where
  pub later : before ≤ now
  pub nothing_else : (t : ℕ) (c : Image) → t ≤ before → since t c → past t c ⊎ may_leave c
  pub keeps : (t : ℕ) (c : Image) → t ≤ before → past t c → since t c

-- A crash at any moment since old leaves an image that has P.
pub record LeavesOnly {S : Type 0} (moment : S → ℕ) (left_since : S → ℕ → Image → Type 0) (old new : S) (P : Image → Type 0) : Type 0 where
  pub later : moment old ≤ moment new
  pub each : (c : Image) → left_since new (moment old) c → P c
  -- for a run that began earlier
  pub before : (t : ℕ) (c : Image) → t ≤ moment old → left_since new t c → left_since old t c ⊎ P c

-- a count rose, or stands at its greatest value
abbrev pub Rose : ℕ → ℕ → Type 0
Rose before now = min (before + 1) (2 ^ 64 - 1) ≤ now

pub record HasCause {T E : Type 0} (before now : ℕ) (result : Result T E) : Type 0 where
  pub later : before ≤ now
  pub failed : OnErr result (Rose before now)

pub record HasStoreCause {T : Type 0} (before now : ℕ) (result : Result T StoreError) : Type 0 where
  pub later : before ≤ now
  pub failed : IsErrOf result Failed → Rose before now
