-- Types as they are written and declared, under a table.
use Rattle.std.specs.Prelude.{ℕ, Bool, true, false, ◌+◌, ◌<◌, ◌^◌, if◌then◌else◌, length, Option, Some, None, nat_eq}
use Rattle.jr_tree.specs.declared.label.Label.{Label}
use Rattle.jr_tree.specs.declared.label.Label.TheVariants as is
use Rattle.jr_tree.specs.declared.label.Role.{Role}
use Rattle.jr_tree.specs.declared.label.Role.TheVariants as role
use Rattle.jr_tree.specs.Rows.{Rows, label, parent}
use Rattle.jr_defs.specs.declared.referent.Referent.{Referent}
use Rattle.jr_defs.specs.declared.referent.Referent.TheVariants.{Declared}

-- the row that a referent declares
abbrev pub declared : Referent → Option ℕ
declared (Declared n level) = Some n
declared _ = None

-- the first row right below a row
abbrev pub first_child : Rows → ℕ → Option ℕ
first_child p n = if nat_eq (parent p (n + 1)) n then Some (n + 1) else None

-- the brackets at a type or behind a name
abbrev pub dims_of : Label → ℕ
dims_of (is.TypeUse primitive dims) = dims
dims_of (is.Field modifiers dims) = dims
dims_of (is.Local is_final dims) = dims
dims_of (is.Parameter is_final dims) = dims
dims_of _ = 0

-- the dimensions of an array that a row creates
abbrev pub dims_made : Label → ℕ
dims_made (is.NewArray primitive lengths extra) = lengths + extra
dims_made _ = 0

-- rows and brackets are few enough to be counted
pub record IsSized (p : Rows) : Type 0 where
  pub few : length p < 2 ^ 32
  pub shallow : (n : ℕ) → dims_of (label p n) < 2 ^ 63
  pub counted : (n : ℕ) → dims_made (label p n) < 2 ^ 64

abbrev pub is_callable : Role → Bool
is_callable role.Method = true
is_callable role.Constructor = true
is_callable _ = false
