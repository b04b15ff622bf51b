-- The rows of worked programs, each with what its names are to refer to.
use Rattle.std.specs.Prelude.{ℕ, List, [], ◌∷◌, cond, nat_eq}
use Rattle.jr_base.specs.declared.text.Text.{Text}
use Rattle.jr_tree.specs.declared.row.Row.{Row}
use Rattle.jr_tree.specs.declared.label.Label.{Label}
use Rattle.jr_tree.specs.declared.label.Modifiers.{Modifiers}
use Rattle.jr_tree.specs.Decls.{modifiers_of}
use Rattle.jr_tree.specs.Rows.{Rows}
use Rattle.jr_defs.specs.declared.referent.Referent.{Referent}
use Rattle.jr_defs.specs.declared.referent.Referent.TheVariants.{Unbound}
use Rattle.jr_defs.specs.Referents.{Table}
use Rattle.jr_defs.specs.Binding.{IsBound}

-- a row, by its parent, its end, the row before it, its label and its identifier
abbrev pub r : ℕ → ℕ → ℕ → Label → Text → Row
r parent end previous label name = record { label = label; name = name; parent = parent; end = end; previous = previous }

-- no modifiers
abbrev pub bare : Modifiers
bare = modifiers_of []

-- a program, and the rows that are to refer to something, each with what that is
pub record Worked : Type 0 where
  pub rows : Rows
  pub targets : List (ℕ × Referent)

-- the table with these entries; no other row refers to anything
abbrev pub told : List (ℕ × Referent) → Table
told [] n = Unbound
told (one ∷ more) n = cond (nat_eq one.0 n) one.1 (told more n)

abbrev pub rows_of : Worked → Rows
rows_of w = w.rows

abbrev pub table_of : Worked → Table
table_of w = told w.targets

-- each row refers to what lookup gives for it under this same table
abbrev pub IsLookedUp : Worked → Type 0
IsLookedUp w = IsBound w.rows (told w.targets)
