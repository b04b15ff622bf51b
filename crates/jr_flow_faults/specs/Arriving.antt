-- Catches of what no body throws, by what came out of bodies.
use Rattle.std.specs.Prelude.{◌≡◌, ◌⊎◌, ℕ, Bool, true, codes, List, Some, Decides}
use Rattle.jr_tree.specs.Rows.{Rows, parent}
use Rattle.jr_tree.specs.Local.{IsLocal}
use Rattle.jr_defs.specs.Referents.{Table, entries}
use Rattle.jr_defs.specs.Declarations.{IsPrelude}
use Rattle.jr_defs.specs.MemberRules.{IsChecked}
use Rattle.jr_defs.specs.Supertypes.{AtOrAbove}
use Rattle.jr_plain.specs.Overloads.{Types}
use Rattle.jr_plain.specs.Search.{Finds}
use Rattle.jr_places.specs.declared.chains.Entry.{Entry}
use Rattle.jr_rules.specs.Typed.{Typed}
use Rattle.jr_supers.specs.Pairs.{has_pair}
use Rattle.jr_supers.specs.Supers.{AreSupersOf}
use Rattle.jr_supers.specs.Tabled.{IsSized}
use Rattle.jr_supers.specs.declared.subtypes.Supers as upper
use Rattle.jr_supers.specs.declared.tabled.Tabled as tabled
use Rattle.jr_flow_faults.specs.declared.catches.Arrived as code
use Rattle.jr_flow_faults.specs.declared.classes.Roots as rooted
use Rattle.jr_flow_faults.specs.Roots.{AreRoots}
use Rattle.jr_flow_faults.specs.Outwards.{AreAbove}
use Rattle.jr_flow_faults.specs.ExceptionTests.{catch_class}
use Rattle.jr_flow_faults.specs.Exceptions.{BodyThrows}

-- a class stands under the `try` o that is at or below c, or above it
pub record HasRelated (p : Rows) (t : Table) (thrown : List Entry) (o c : ℕ) : Type 0 where
  pub class : ℕ
  pub listed : has_pair thrown o class ≡ true
  pub related : AtOrAbove p t class c ⊎ AtOrAbove p t c class

pub record IsUnthrownClass (p : Rows) (t : Table) (thrown : List Entry) (o c : ℕ) : Type 0 where
  pub checked : IsChecked p t c
  pub no_exception : IsPrelude p (codes "Exception") c → ⊥
  pub no_throwable : IsPrelude p (codes "Throwable") c → ⊥
  pub none : HasRelated p t thrown o c → ⊥

pub record IsUnthrownCatch (p : Rows) (t : Table) (thrown : List Entry) (n : ℕ) : Type 0 where
  pub class : ℕ
  pub caught : catch_class p t n ≡ Some class
  pub unthrown : IsUnthrownClass p t thrown (parent p n) class

-- rows under a table, with their supertypes and roots, and what stands above what came out
pub record IsTelling (under : tabled.Tabled) (supers : upper.Supers) (roots : rooted.Roots) (arrived : code.Arrived) : Type 0 where
  pub local : IsLocal under.rows.now
  pub sized : IsSized under.rows.now
  pub supers_are : AreSupersOf under.rows.now (entries under.table.now) supers
  pub roots_are : AreRoots under.rows.now roots
  pub above : AreAbove under.rows.now (entries under.table.now) arrived.thrown arrived.above

-- under each `try` stand the checked classes that come out of its body
pub record AreAllArrived (under : tabled.Tabled) (type_of : Types) (completes : ℕ → Bool) (arrived : code.Arrived) : Type 0 where
  pub typed : (n : ℕ) → Finds (type_of n) (λ a. Typed under.rows.now (entries under.table.now) n a)
  pub thrown : (o d : ℕ) → Decides (has_pair arrived.thrown o d) (BodyThrows under.rows.now (entries under.table.now) completes o d)
