-- Which rows look up another declaration than their lock (JLS 6.5), under a table of locks.
use Rattle.std.specs.Prelude.{◌≡◌, ℕ, ◌+◌, ◌<◌, ◌^◌, Bool, true, false, List, [], ◌∷◌, length, Option, Some, None, slice_get}
use Rattle.jr_tree.specs.declared.label.Sought.{Sought}
use Rattle.jr_tree.specs.declared.label.Sought.TheVariants as sought
use Rattle.jr_tree.specs.Rows.{Rows, sought_at}
use Rattle.jr_defs.specs.declared.referent.Referent.{Referent}
use Rattle.jr_defs.specs.declared.referent.Referent.TheVariants.{Unbound, Declared}
use Rattle.jr_defs.specs.declared.referent.RowType.{RowType}
use Rattle.jr_defs.specs.Referents.{Table, entries}
use Rattle.jr_defs.specs.Constants.{HasConstantForm}
use Rattle.jr_defs.specs.Lookup.{Look}
use Rattle.jr_plain.specs.Search.{all_below}
use Rattle.jr_places.specs.declared.places.Places.{Places}
use Rattle.jr_supers.specs.declared.subtypes.Supers.{Supers}
use Rattle.jr_supers.specs.Supers.{HasNoCycle}
use Rattle.jr_members.specs.declared.members.Members.{Members}
use Rattle.jr_constants.specs.declared.constants.Constants as code
use Rattle.jr_lookup.specs.declared.imports.Imports.{Imports}
use Rattle.jr_lookup.specs.declared.scopes.Scopes.{Scopes}
use Rattle.jr_lookup.specs.declared.simple.Sight.{Sight}
use Rattle.jr_headed.specs.Founded.{AreWell}
use Rattle.jr_bind.specs.declared.binder.Bound.{Bound}
use Rattle.jr_bind.specs.declared.headers.Setting.{Setting}
use Rattle.jr_bind.specs.declared.rebinding.Rebound.{Rebound}
use Rattle.jr_bind.specs.Confirmed.{may_refer_at, IsProgramOf, AreTables}

-- both are one declaration, found through any level, or the same in all else
abbrev pub IsSameTarget : Referent → Referent → Type 0
IsSameTarget (Declared d level) (Declared e other) = d ≡ e
IsSameTarget a b = a ≡ b

-- the row looks for something, and has a lock
pub record HasLock (p : Rows) (t : Table) (n : ℕ) : Type 0 where
  pub seeks : sought_at p n ≡ sought.Nothing → ⊥
  pub bound : t n ≡ Unbound → ⊥

-- lookup gives another declaration there than the lock
pub record IsRebound (p : Rows) (t : Table) (n : ℕ) (found : Referent) : Type 0 where
  pub lock : HasLock p t n
  pub looked : Look p t (HasConstantForm p t) n found
  pub other : IsSameTarget (t n) found → ⊥

abbrev pub rebound_of : ℕ → Referent → Rebound
rebound_of n found = record { row = n; found = found }

-- these are all such rows, as they rise
pub record AreRebound (p : Rows) (t : Table) (all : List Rebound) : Type 0 where
  pub sound : (k : ℕ) (r : Rebound) → slice_get all k ≡ Some r → IsRebound p t r.row r.found
  pub whole : (n : ℕ) (found : Referent) → IsRebound p t n found → (k : ℕ) × (slice_get all k ≡ Some (rebound_of n found))
  pub rise : (j k : ℕ) (r s : Rebound) → j < k → slice_get all j ≡ Some r → slice_get all k ≡ Some s → r.row < s.row

-- locks that may stand at their rows, one for each row
pub record AreLocks (p : Rows) (locks : List Referent) : Type 0 where
  pub size : length locks ≡ length p
  pub may : all_below (length p) (may_refer_at p (entries locks)) ≡ true

-- no type is above itself, and these are all rows that look up another declaration
pub record IsRebinding (p : Rows) (t : Table) (all : List Rebound) : Type 0 where
  pub acyclic : HasNoCycle p t
  pub are : AreRebound p t all

-- ---- row by row

abbrev pub seeks : Sought → Bool
seeks sought.Nothing = false
seeks _ = true

-- the answer of one row
pub record IsReboundAt (p : Rows) (t : Table) (n : ℕ) (answer : Option Rebound) : Type 0 where
  pub sound : (r : Rebound) → answer ≡ Some r → (r.row ≡ n) × IsRebound p t n r.found
  pub whole : (found : Referent) → IsRebound p t n found → answer ≡ Some (rebound_of n found)

abbrev pub one_if : Option Rebound → List Rebound
one_if None = []
one_if (Some r) = r ∷ []

-- those of the rows before one
pub record AreReboundTo (p : Rows) (t : Table) (bound : ℕ) (all : List Rebound) : Type 0 where
  pub sound : (k : ℕ) (r : Rebound) → slice_get all k ≡ Some r → (r.row < bound) × IsRebound p t r.row r.found
  pub whole : (n : ℕ) (found : Referent) → n < bound → IsRebound p t n found → (k : ℕ) × (slice_get all k ≡ Some (rebound_of n found))
  pub rise : (j k : ℕ) (r s : Rebound) → j < k → slice_get all j ≡ Some r → slice_get all k ≡ Some s → r.row < s.row

-- ---- what lookup reads

-- what lookup reads of rows under a table
pub record Parts : Type 0 where
  pub rows : Rows
  pub places : Places
  pub scopes : Scopes
  pub table : List Referent
  pub supers : Supers
  pub members : Members
  pub imports : Imports

abbrev pub parts_of : Sight → Parts
parts_of sight = record {
  rows = sight.world.under.rows.now;
  places = sight.world.under.places.now;
  scopes = sight.scopes.now;
  table = sight.world.under.table.now;
  supers = sight.world.supers.now;
  members = sight.world.members.now;
  imports = sight.imports.now;
}

-- of a bound program
abbrev pub parts_by : Setting → Bound → Parts
parts_by setting bound = record {
  rows = setting.rows.now;
  places = setting.places.now;
  scopes = setting.scopes.now;
  table = bound.table.items;
  supers = bound.supers.value;
  members = bound.members.value;
  imports = bound.imports.value;
}

-- rows of a program under locks, where no type is above itself, with all tables under them
pub record IsLocked (all : Parts) (found : code.Constants) (types : List (Option RowType)) : Type 0 where
  pub program : IsProgramOf all.rows all.places all.scopes
  pub well : AreWell all.rows
  pub few : length all.rows + 3 < 2 ^ 32
  pub locks : AreLocks all.rows all.table
  pub acyclic : HasNoCycle all.rows (entries all.table)
  pub tables : AreTables all.rows (entries all.table) all.places all.supers all.members all.imports found types

abbrev pub IsLockedBy : Setting → Bound → Type 0
IsLockedBy setting bound = IsLocked (parts_by setting bound) bound.constants.value bound.types.items
