-- The unit and the top-level type of a row, from those of the row over it.
use Rattle.std.specs.Prelude.{ℕ, zero, suc, ◌∷◌, ◌++◌, [], if◌then◌else◌, List, Option, Some, None, slice_index_or}
use Rattle.jr_tree.specs.Rows.{Rows, label, parent}
use Rattle.jr_plain.specs.Enclosing.{is_unit, is_top_level}

abbrev pub unit_by : Rows → List (Option ℕ) → ℕ → Option ℕ
unit_by p known n = if is_unit (label p n) then Some n else slice_index_or known (parent p n) None

-- those of the first n rows
abbrev pub units : Rows → ℕ → List (Option ℕ)
units p zero = []
units p (suc n) = units p n ++ unit_by p (units p n) n ∷ []

abbrev pub top_by : Rows → List (Option ℕ) → ℕ → Option ℕ
top_by p known n = if is_top_level p n then Some n else slice_index_or known (parent p n) None

abbrev pub tops : Rows → ℕ → List (Option ℕ)
tops p zero = []
tops p (suc n) = tops p n ++ top_by p (tops p n) n ∷ []
