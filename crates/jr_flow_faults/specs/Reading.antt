-- What is read to follow what is thrown, and what is told of each row.
use Rattle.std.specs.Prelude.{◌≡◌, ◌⊎◌, ℕ, ◌+◌, ◌<◌, Bool, not, true, List, length, Option, None, Decides}
use Rattle.jr_tree.specs.Rows.{Rows}
use Rattle.jr_tree.specs.Local.{IsLocal}
use Rattle.jr_defs.specs.Referents.{Table}
use Rattle.jr_defs.specs.MemberRules.{IsChecked}
use Rattle.jr_plain.specs.Overloads.{Types}
use Rattle.jr_plain.specs.Search.{Finds, has}
use Rattle.jr_rules.specs.Typed.{Typed}
use Rattle.jr_supers.specs.Pairs.{has_pair}
use Rattle.jr_supers.specs.Supers.{AreSupersOf}
use Rattle.jr_supers.specs.Tabled.{IsSized}
use Rattle.jr_reach.specs.Statements.{Entries, later, entries, courses}
use Rattle.jr_view.specs.declared.View.{View}
use Rattle.jr_flow_faults.specs.declared.catches.Arrived as arriving
use Rattle.jr_flow_faults.specs.declared.going.Tracing as tracing
use Rattle.jr_flow_faults.specs.declared.guards.Around as round
use Rattle.jr_flow_faults.specs.declared.throwing.Reading as code
use Rattle.jr_flow_faults.specs.Computed.{rows_in, table_in, facts_in}
use Rattle.jr_flow_faults.specs.Exceptions.{FinallyCompletes, Catches, ThrownAt, LetsOut}
use Rattle.jr_flow_faults.specs.Roots.{HasOneOfEach, AreRoots}
use Rattle.jr_flow_faults.specs.Outwards.{completing, loses, guard_in, Meets, IsReached, IsLeft, AreFollowed, AreAbove}
use Rattle.jr_flow_faults.specs.ExceptionTests.{types_of, AreCatchesTo, is_uncaught}

-- ---- of a view

abbrev pub types_in : View → Types
types_in view = types_of view.types.now

-- whether each row can complete
abbrev pub completes_in : View → ℕ → Bool
completes_in view = completing (courses (rows_in view) (facts_in view))

-- its rows are local and can be counted, its supertypes and types are those under its table, and java.lang has one class of each name
pub record IsThrowingView (view : View) : Type 0 where
  pub local : IsLocal (rows_in view)
  pub sized : IsSized (rows_in view)
  pub above : AreSupersOf (rows_in view) (table_in view) view.sight.world.supers.now
  pub typed : (n : ℕ) → Finds (types_in view n) (λ a. Typed (rows_in view) (table_in view) n a)
  pub roots : HasOneOfEach (rows_in view)

-- ---- of what is read

abbrev pub rows_of : code.Reading → Rows
rows_of reading = rows_in reading.view.now

abbrev pub table_of : code.Reading → Table
table_of reading = table_in reading.view.now

abbrev pub entries_of : code.Reading → Entries
entries_of reading = later (length reading.around.now.rows.now) reading.around.now.all.now

abbrev pub completes_of : code.Reading → ℕ → Bool
completes_of reading = completing (entries_of reading)

pub record IsReading (reading : code.Reading) : Type 0 where
  pub view : IsThrowingView reading.view.now
  pub roots : AreRoots (rows_of reading) reading.roots
  pub guards : (n : ℕ) → Finds (guard_in reading.guards.now n) (Meets (rows_of reading) (completes_of reading) n)
  pub finally : (n : ℕ) → Decides (not (loses reading.around.now.facts.now (entries_of reading) n)) (FinallyCompletes (rows_of reading) (completes_of reading) n)
  pub catches : AreCatchesTo (rows_of reading) (table_of reading) (length (rows_of reading)) reading.catches.now.table

-- where the class c goes from the `try` g: it is caught or lost there, or meets what is next
pub data IsOnward (p : Rows) (t : Table) (completes : ℕ → Bool) (c g : ℕ) : Option ℕ → Type 0 where
  caught : Catches p t g c → IsOnward p t completes c g None
  lost : (Catches p t g c → ⊥) → (FinallyCompletes p completes g → ⊥) → IsOnward p t completes c g None
  on : {next : Option ℕ} → (Catches p t g c → ⊥) → FinallyCompletes p completes g → Finds next (Meets p completes g) → IsOnward p t completes c g next

-- ---- what is told of a class that is thrown at a row, and of the row

pub record ComesUncaught (p : Rows) (t : Table) (completes : ℕ → Bool) (n c : ℕ) : Type 0 where
  pub checked : IsChecked p t c
  pub member : ℕ
  pub reached : IsReached p t completes c n member
  pub kept : LetsOut p t c member → ⊥

pub record NotesClass (p : Rows) (t : Table) (completes : ℕ → Bool) (n c : ℕ) (old new : arriving.Arrived) (broken : Bool) : Type 0 where
  pub uncaught : Decides broken (ComesUncaught p t completes n c)
  pub thrown : (o d : ℕ) → Decides (has_pair new.thrown o d) ((has_pair old.thrown o d ≡ true) ⊎ ((c ≡ d) × IsChecked p t c × IsLeft p t completes c n o))
  pub above : AreAbove p t old.thrown old.above → AreAbove p t new.thrown new.above

-- of the classes of a list
pub record NotesClasses (p : Rows) (t : Table) (completes : ℕ → Bool) (n : ℕ) (classes : List ℕ) (old new : arriving.Arrived) (broken : Bool) : Type 0 where
  pub uncaught : Decides broken ((c : ℕ) × (has classes c ≡ true) × ComesUncaught p t completes n c)
  pub thrown : (o d : ℕ) → Decides (has_pair new.thrown o d) ((has_pair old.thrown o d ≡ true) ⊎ ((has classes d ≡ true) × IsChecked p t d × IsLeft p t completes d n o))
  pub above : AreAbove p t old.thrown old.above → AreAbove p t new.thrown new.above

-- the checked class d, thrown at the row n, comes out of the body of the `try` o
pub record RowThrows (p : Rows) (t : Table) (completes : ℕ → Bool) (o d n : ℕ) : Type 0 where
  pub thrown : ThrownAt p t n d
  pub checked : IsChecked p t d
  pub left : IsLeft p t completes d n o

-- what came out of bodies from the first n rows
pub record AreArrived (p : Rows) (t : Table) (completes : ℕ → Bool) (n : ℕ) (arrived : arriving.Arrived) : Type 0 where
  pub thrown : (o d : ℕ) → Decides (has_pair arrived.thrown o d) ((j : ℕ) × (j < n) × RowThrows p t completes o d j)
  pub above : AreAbove p t arrived.thrown arrived.above

-- ---- by what is round the rows

pub record IsAround (view : View) (around : round.Around) : Type 0 where
  pub rows_are : around.rows.now ≡ rows_in view
  pub facts_are : around.facts.now ≡ facts_in view
  pub all_are : around.all.now ≡ entries (rows_in view) (facts_in view) (length (rows_in view))

-- ---- of a checked class

-- the member to which the class comes
pub record FollowsClass (p : Rows) (t : Table) (completes : ℕ → Bool) (n c : ℕ) (old new : arriving.Arrived) (member : Option ℕ) : Type 0 where
  pub reached : Finds member (IsReached p t completes c n)
  pub thrown : AreFollowed p t completes c n old.thrown new.thrown
  pub above : AreAbove p t old.thrown old.above → AreAbove p t new.thrown new.above

pub record FollowsUncaught (p : Rows) (t : Table) (completes : ℕ → Bool) (n c : ℕ) (old new : arriving.Arrived) (broken : Bool) : Type 0 where
  pub uncaught : Decides broken ((m : ℕ) × IsReached p t completes c n m × (LetsOut p t c m → ⊥))
  pub thrown : AreFollowed p t completes c n old.thrown new.thrown
  pub above : AreAbove p t old.thrown old.above → AreAbove p t new.thrown new.above

pub record NotesRow (p : Rows) (t : Table) (type_of : Types) (completes : ℕ → Bool) (n : ℕ) (new : arriving.Arrived) (broken : Bool) : Type 0 where
  pub uncaught : broken ≡ is_uncaught p t type_of completes n
  pub arrived : AreArrived p t completes (n + 1) new

-- ---- from row to row

pub record IsTracing (trace : tracing.Tracing) : Type 0 where
  pub view : IsThrowingView trace.view.now
  pub around : IsAround trace.view.now trace.around.now
  pub catches : AreCatchesTo (rows_in trace.view.now) (table_in trace.view.now) (length (rows_in trace.view.now)) trace.catches.now.table
