-- Declarations that are visible at a place, and types but those that imports on demand bring (JLS 6.3, 6.4.1, 6.5.5.1, 7.5).
use Rattle.std.specs.Prelude.{◌≡◌, ℕ, true, List, length, Option, None}
use Rattle.jr_base.specs.declared.text.Text.{Text}
use Rattle.jr_tree.specs.Rows.{Rows}
use Rattle.jr_defs.specs.declared.referent.Space.{Space}
use Rattle.jr_defs.specs.declared.referent.Space.TheVariants as space
use Rattle.jr_defs.specs.Referents.{Table}
use Rattle.jr_defs.specs.Scope.{Depth, on_demand, InScope, Visible}
use Rattle.jr_defs.specs.Lookup.{VisibleThrough, NoneInScope}
use Rattle.jr_plain.specs.Search.{has}

-- what is found are the declarations of the kind and name that are visible at the place, all with this level; where nothing is found none is in scope
pub record AreVisibleAt (p : Rows) (t : Table) (k : Space) (x : Text) (o : ℕ) (found : List ℕ) (level : Option ℕ) : Type 0 where
  pub sound : (d : ℕ) → has found d ≡ true → VisibleThrough p t k x o d level
  pub whole : (d : ℕ) (l : Option ℕ) → VisibleThrough p t k x o d l → (has found d ≡ true) × (l ≡ level)
  pub none : length found ≡ 0 → NoneInScope p t k x o

-- a type that is visible so far in, not by an import on demand
pub record IsTypeByName (p : Rows) (t : Table) (x : Text) (o d : ℕ) : Type 0 where
  pub depth : Depth
  pub visible : Visible p t space.Type x o d depth
  pub by_name : depth ≡ on_demand → ⊥

-- these are found; where nothing is found none but types by imports on demand are in scope
pub record AreTypesByName (p : Rows) (t : Table) (x : Text) (o : ℕ) (found : List ℕ) (level : Option ℕ) : Type 0 where
  pub sound : (d : ℕ) → has found d ≡ true → IsTypeByName p t x o d
  pub whole : (d : ℕ) → IsTypeByName p t x o d → has found d ≡ true
  pub none : length found ≡ 0 → (d : ℕ) (r : Depth) → InScope p t space.Type x o d r → r ≡ on_demand
  pub level_is : level ≡ None
