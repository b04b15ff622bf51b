-- What meets first what is thrown at a row, and where it goes from there, as the code follows it (JLS 11.2.2, 14.20).
use Rattle.std.specs.Prelude.{◌≡◌, ◌⊎◌, ℕ, zero, suc, ◌+◌, ◌<◌, Bool, true, false, not, ◌&&◌, if◌then◌else◌, List, [], ◌∷◌, ◌++◌, length, Option, Some, None, Decides, nat_eq, slice_index_or}
use Rattle.jr_tree.specs.declared.label.Label.{Label}
use Rattle.jr_tree.specs.declared.label.Label.TheVariants as is
use Rattle.jr_tree.specs.Rows.{Rows, label, parent}
use Rattle.jr_defs.specs.Referents.{Table}
use Rattle.jr_defs.specs.Supertypes.{AtOrAbove}
use Rattle.jr_places.specs.declared.chains.Entry.{Entry}
use Rattle.jr_rules.specs.StatementTests.{is_catch}
use Rattle.jr_supers.specs.Pairs.{has_pair}
use Rattle.jr_reach.specs.Statements.{Facts, Entries, fact}
use Rattle.jr_flow_faults.specs.declared.guards.Guard.{Guard}
use Rattle.jr_flow_faults.specs.declared.guards.Guard.TheVariants as guard
use Rattle.jr_flow_faults.specs.Computed.{is_block, is_it}
use Rattle.jr_flow_faults.specs.Known.{IsLastBlock}
use Rattle.jr_flow_faults.specs.Exceptions.{IsTry, IsCode, IsTryBlock, FinallyCompletes, Catches, ComesTo}

-- ---- computed

abbrev pub guard_of : Label → Guard
guard_of (is.Try has_finally) = guard.Try
guard_of (is.Method modifiers is_void has_body) = guard.Callable
guard_of (is.Constructor modifiers) = guard.Callable
guard_of is.DefaultConstructor = guard.Callable
guard_of (is.Initializer is_static) = guard.Initializer is_static
guard_of (is.Field modifiers dims) = guard.Field
guard_of _ = guard.Nothing

abbrev pub is_try_guard : Guard → Bool
is_try_guard guard.Try = true
is_try_guard _ = false

abbrev pub is_try : Label → Bool
is_try l = is_try_guard (guard_of l)

-- whether each row can complete
abbrev pub completing : Entries → ℕ → Bool
completing e n = (e n).own.completes

-- the `finally` is there, and cannot complete
abbrev pub loses_by : (ℕ → Bool) → Option ℕ → Bool
loses_by completes None = false
loses_by completes (Some k) = not (completes k)

abbrev pub loses : Facts → Entries → ℕ → Bool
loses f e n = loses_by (completing e) (fact f n).last

abbrev pub guard_in : List (Option ℕ) → ℕ → Option ℕ
guard_in known n = slice_index_or known n None

-- of a child of a `try`, by the guards of the rows before it
abbrev pub guard_in_try : Rows → Facts → Entries → List (Option ℕ) → ℕ → Option ℕ
guard_in_try p f e known n =
    if is_catch (label p n) then (if loses f e (parent p n) then None else guard_in known (parent p n))
    else (if is_block (label p n) && nat_eq n (parent p n + 1) then Some (parent p n)
    else (if is_it (fact f (parent p n)).last n then guard_in known (parent p n) else None))

abbrev pub guard_under : Guard → Rows → Facts → Entries → List (Option ℕ) → ℕ → Option ℕ
guard_under guard.Try p f e known n = guard_in_try p f e known n
guard_under guard.Nothing p f e known n = guard_in known (parent p n)
guard_under _ p f e known n = Some (parent p n)

abbrev pub guard_by : Rows → Facts → Entries → List (Option ℕ) → ℕ → Option ℕ
guard_by p f e known n = guard_under (guard_of (label p (parent p n))) p f e known n

-- those of the first n rows
abbrev pub guards : Rows → Facts → Entries → ℕ → List (Option ℕ)
guards p f e zero = []
guards p f e (suc n) = guards p f e n ++ guard_by p f e (guards p f e n) n ∷ []

-- what meets next what a `try` does not catch
abbrev pub next_guard : Facts → Entries → List (Option ℕ) → ℕ → Option ℕ
next_guard f e known n = if loses f e n then None else guard_in known n

-- ---- the way outwards, from guard to guard

-- what is thrown inside the row n meets g first: the body of the `try` g, or the member g
pub data Meets (p : Rows) (completes : ℕ → Bool) : ℕ → ℕ → Type 0 where
  code : {n : ℕ} → IsCode (label p (parent p n)) → Meets p completes n (parent p n)
  body : {n : ℕ} → IsTryBlock p (parent p n) n → Meets p completes n (parent p n)
  catch : {n g : ℕ} → IsTry (label p (parent p n)) → label p n ≡ is.Catch → FinallyCompletes p completes (parent p n) → Meets p completes (parent p n) g → Meets p completes n g
  last : {n g : ℕ} → IsLastBlock p (parent p n) n → Meets p completes (parent p n) g → Meets p completes n g
  part : {n g : ℕ} → (IsCode (label p (parent p n)) → ⊥) → (IsTry (label p (parent p n)) → ⊥) → Meets p completes (parent p n) g → Meets p completes n g

-- it meets g, first or after such a `try` does not catch it
pub data Arrives (p : Rows) (t : Table) (completes : ℕ → Bool) (c : ℕ) : ℕ → ℕ → Type 0 where
  first : {n g : ℕ} → Meets p completes n g → Arrives p t completes c n g
  after : {n g h : ℕ} → Meets p completes n g → IsTry (label p g) → (Catches p t g c → ⊥) → FinallyCompletes p completes g → Arrives p t completes c g h → Arrives p t completes c n h

-- g is h, or a `try` that does not catch it and from which it arrives at h
pub data Goes (p : Rows) (t : Table) (completes : ℕ → Bool) (c g h : ℕ) : Type 0 where
  there : g ≡ h → Goes p t completes c g h
  on : IsTry (label p g) → (Catches p t g c → ⊥) → FinallyCompletes p completes g → Arrives p t completes c g h → Goes p t completes c g h

abbrev pub GoesFrom : Rows → Table → (ℕ → Bool) → ℕ → Option ℕ → ℕ → Type 0
GoesFrom p t completes c None h = ⊥
GoesFrom p t completes c (Some g) h = Goes p t completes c g h

-- ---- what the code has

-- the member to which the class c comes from the row n
pub record IsReached (p : Rows) (t : Table) (completes : ℕ → Bool) (c n m : ℕ) : Type 0 where
  pub is_code : IsCode (label p m)
  pub comes : ComesTo p t completes c n m

-- the `try` o from whose body the class c comes, thrown at the row n
pub record IsLeft (p : Rows) (t : Table) (completes : ℕ → Bool) (c n o : ℕ) : Type 0 where
  pub body : IsTryBlock p o (o + 1)
  pub comes : ComesTo p t completes c n (o + 1)

-- the pairs are those before and that of each such `try` with the class
abbrev pub AreFollowed : Rows → Table → (ℕ → Bool) → ℕ → ℕ → List Entry → List Entry → Type 0
AreFollowed p t completes c n old new = (o d : ℕ) → Decides (has_pair new o d) ((has_pair old o d ≡ true) ⊎ ((c ≡ d) × IsLeft p t completes c n o))

-- on the way, where the next guard is met
pub record IsFollowing (p : Rows) (t : Table) (completes : ℕ → Bool) (c n : ℕ) (old now : List Entry) (next : Option ℕ) (turn : ℕ) : Type 0 where
  pub ahead : (h : ℕ) → Arrives p t completes c n h → ((has_pair now h c ≡ true) × IsTry (label p h)) ⊎ GoesFrom p t completes c next h
  pub back : (h : ℕ) → GoesFrom p t completes c next h → Arrives p t completes c n h
  pub pairs : (o d : ℕ) → has_pair now o d ≡ true → (has_pair old o d ≡ true) ⊎ ((c ≡ d) × Arrives p t completes c n o × IsTry (label p o))
  pub kept : (o d : ℕ) → has_pair old o d ≡ true → has_pair now o d ≡ true
  pub near : (g : ℕ) → next ≡ Some g → g + turn < length p

-- above what stands under each `try`, and that itself
abbrev pub AreAbove : Rows → Table → List Entry → List Entry → Type 0
AreAbove p t thrown above = (o c : ℕ) → Decides (has_pair above o c) ((d : ℕ) × (has_pair thrown o d ≡ true) × AtOrAbove p t d c)
