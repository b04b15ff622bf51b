-- The innermost type round a row, from that of the row over it.
use Rattle.std.specs.Prelude.{ℕ, zero, suc, ◌∷◌, ◌++◌, [], if◌then◌else◌, List, Option, Some, None, slice_index_or}
use Rattle.jr_tree.specs.Rows.{Rows, parent}
use Rattle.jr_plain.specs.Enclosing.{is_body_of}

abbrev pub around_by : Rows → List (Option ℕ) → ℕ → Option ℕ
around_by p known n = if is_body_of p (parent p (parent p n)) (parent p n) then Some (parent p (parent p n)) else slice_index_or known (parent p n) None

-- those of the first n rows
abbrev pub arounds : Rows → ℕ → List (Option ℕ)
arounds p zero = []
arounds p (suc n) = arounds p n ++ around_by p (arounds p n) n ∷ []
