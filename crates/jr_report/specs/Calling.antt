-- What is sought in code: calls of stamped methods, and string conversions of objects.
use Rattle.std.specs.Prelude.{◌≡◌, ◌⊎◌, ℕ, ◌+◌, ◌<◌, ◌≤◌, ◌^◌, Bool, true}
use Rattle.jr_tree.specs.Rows.{Rows, label, end}
use Rattle.jr_tree.specs.Tree.{IsTree}
use Rattle.jr_defs.specs.Referents.{Table}
use Rattle.jr_places.specs.declared.stamps.Stamps.{Stamps}
use Rattle.jr_places.specs.Stamps.{is_stamped}
use Rattle.jr_view.specs.declared.View.{View}
use Rattle.jr_report.specs.Calls.{IsCallOf, has_code, shows_object}
use Rattle.jr_report.specs.Listed.{rows_in, table_in}
use Rattle.jr_report.specs.Reports.{types_in}

-- the row calls a method that is stamped
pub record CallsOne (p : Rows) (t : Table) (called : Stamps) (n : ℕ) : Type 0 where
  pub method : ℕ
  pub call : IsCallOf p t method n
  pub stamped : is_stamped called method ≡ true

abbrev pub view_rows : View → Rows
view_rows view = rows_in view.sight.world

-- a string conversion of an object, where these are sought
pub record IsShownAt (view : View) (shows : Bool) (n : ℕ) : Type 0 where
  pub sought : shows ≡ true
  pub shown : shows_object (view_rows view) (types_in view) n ≡ true

-- such a call, or such a conversion
abbrev pub IsSoughtAt : View → Stamps → Bool → ℕ → Type 0
IsSoughtAt view called shows n = CallsOne (view_rows view) (table_in view.sight.world) called n ⊎ IsShownAt view shows n

-- one of the rows from the first on, before the end
pub record HoldsSought (view : View) (called : Stamps) (shows : Bool) (first stop : ℕ) : Type 0 where
  pub row : ℕ
  pub from : first ≤ row
  pub before : row < stop
  pub sought : IsSoughtAt view called shows row

-- the code of the declaration has such a row
pub record IsSoughtIn (view : View) (called : Stamps) (shows : Bool) (b : ℕ) : Type 0 where
  pub code : has_code (label (view_rows view) b) ≡ true
  pub holds : HoldsSought view called shows b (end (view_rows view) b)

-- what stands below the row can be counted
pub record IsInRange (view : View) (b : ℕ) : Type 0 where
  pub start : b + 1 < 2 ^ 32
  pub stop : end (view_rows view) b + 1 < 2 ^ 32

abbrev pub IsTreeOf : View → Type 0
IsTreeOf view = IsTree (view_rows view)
