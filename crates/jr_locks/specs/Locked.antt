-- What the rows of a changed program must refer to: what their originals refer to, where it stands now.
use Rattle.std.specs.Prelude.{◌≡◌, ◌≢◌, ℕ, ◌<◌, Bool, true, false, not, ◌&&◌, ◌||◌, IsTrue, List, [], ◌∷◌, length, Option, Some, None, if◌then◌else◌, nat_eq, nat_le, nat_lt}
use Rattle.jr_defs.specs.declared.referent.Referent.{Referent}
use Rattle.jr_defs.specs.declared.referent.Referent.TheVariants.{Unbound, Ambiguous, ArrayLength, Package, Declared}
use Rattle.jr_defs.specs.Referents.{Table}
use Rattle.jr_change.specs.declared.change.Added.{Added}
use Rattle.jr_change.specs.declared.change.Raised.{Raised}
use Rattle.jr_change.specs.declared.change.RowRange.{RowRange}
use Rattle.jr_locks.specs.Origins.{no_row, origin_of}

-- ---- copies

-- the row c of the changed program is a copy of the old row d
abbrev pub IsCopyOf : List ℕ → ℕ → ℕ → Type 0
IsCopyOf origin c d = origin_of origin c ≡ d

-- the row c is the first copy of the old row d among some rows
pub record IsFirstCopyOf (among : ℕ → Bool) (origin : List ℕ) (c d : ℕ) : Type 0 where
  pub copy : IsCopyOf origin c d
  pub one : IsTrue (among c)
  pub first : (e : ℕ) → e < c → IsTrue (among e) → IsCopyOf origin e d → ⊥

-- the old row d, one of so many, has no copy among some rows
pub record IsGone (among : ℕ → Bool) (origin : List ℕ) (old d : ℕ) : Type 0 where
  pub no : (c : ℕ) → d < old → c < length origin → IsTrue (among c) → IsCopyOf origin c d → ⊥

-- all rows
abbrev pub every : ℕ → Bool
every n = true

abbrev pub between : ℕ → ℕ → ℕ → Bool
between first end n = nat_le first n && nat_lt n end

abbrev pub is_within : RowRange → ℕ → Bool
is_within range n = between range.first range.end n

abbrev pub is_outside : RowRange → ℕ → Bool
is_outside range n = not (is_within range n)

-- a row in the range, if there is one
abbrev pub is_in : Option RowRange → ℕ → Bool
is_in None n = false
is_in (Some range) n = is_within range n

-- the rows on the side of the row n: those in the range where it stands there, and else those outside
abbrev pub is_beside : Option RowRange → ℕ → ℕ → Bool
is_beside inner n c = if is_in inner n then is_in inner c else not (is_in inner c)

-- The copy of the old row d that the row n sees: the first one on its side, and where none stands there, the first of all.
pub data IsSeenFrom (inner : Option RowRange) (origin : List ℕ) (old n d : ℕ) : ℕ → Type 0 where
  beside : {c : ℕ} → IsFirstCopyOf (is_beside inner n) origin c d → IsSeenFrom inner origin old n d c
  beyond : {c : ℕ} → IsGone (is_beside inner n) origin old d → IsFirstCopyOf every origin c d → IsSeenFrom inner origin old n d c

-- ---- locks

-- where the type stands, as the row n sees it, through which a field or method is found
pub data IsLevelAt (inner : Option RowRange) (origin : List ℕ) (old n : ℕ) : Option ℕ → Option ℕ → Type 0 where
  no_level : IsLevelAt inner origin old n None None
  at_copy : {c d : ℕ} → IsSeenFrom inner origin old n d c → IsLevelAt inner origin old n (Some d) (Some c)

-- What the row n must refer to as a copy of a row that refers to this: the copy of the declaration that it sees, through the copy of its level that it sees. Of a
-- declaration that is gone, or whose level is, nothing.
pub data IsLockOf (inner : Option RowRange) (origin : List ℕ) (old n : ℕ) : Referent → Referent → Type 0 where
  unbound : IsLockOf inner origin old n Unbound Unbound
  ambiguous : IsLockOf inner origin old n Ambiguous Ambiguous
  array_length : IsLockOf inner origin old n ArrayLength ArrayLength
  a_package : IsLockOf inner origin old n Package Package
  copied : {c d : ℕ} {level over : Option ℕ} → IsSeenFrom inner origin old n d c → IsLevelAt inner origin old n level over
      → IsLockOf inner origin old n (Declared d level) (Declared c over)
  gone : {d : ℕ} {level : Option ℕ} → IsGone every origin old d → IsLockOf inner origin old n (Declared d level) Unbound
  gone_over : {d s : ℕ} → IsGone every origin old s → IsLockOf inner origin old n (Declared d (Some s)) Unbound

abbrev pub raised_level : Raised → Referent → Referent
raised_level r (Declared d (Some s)) = if nat_eq s r.from then Declared d (Some r.to) else Declared d (Some s)
raised_level r found = found

-- what an old row refers to, where in a method that is pulled up one class takes the place of another as level
abbrev pub raised_to : Option Raised → ℕ → Referent → Referent
raised_to None n found = found
raised_to (Some r) n found = if is_within r.method n then raised_level r found else found

-- whether the change says what the row refers to
abbrev pub is_added : List Added → ℕ → Bool
is_added [] n = false
is_added (one ∷ rest) n = nat_eq one.row n || is_added rest n

-- a row that is a copy has the lock of its original
abbrev pub HasLock : Option RowRange → List ℕ → ℕ → Table → Option Raised → ℕ → Referent → Type 0
HasLock inner origin old t raised n lock =
    origin_of origin n ≢ no_row → IsLockOf inner origin old n (raised_to raised (origin_of origin n) (t (origin_of origin n))) lock

-- each of the first so many rows that is a copy, and of which the change says nothing else, has the lock of its original
pub record AllLocked (inner : Option RowRange) (origin : List ℕ) (old : ℕ) (t : Table) (raised : Option Raised) (added : List Added) (locks : Table) (count : ℕ) : Type 0 where
  pub each : (n : ℕ) → n < count → is_added added n ≡ false → HasLock inner origin old t raised n (locks n)
