-- The rows of a program: its labels in preorder, each with its parent, the end of what is below it, and the row before it.
use Rattle.std.specs.Prelude.{ℕ, zero, suc, ◌+◌, List, [], ◌∷◌, ◌++◌, slice_index_or}
use Rattle.jr_base.specs.declared.text.Text.{Text}
use Rattle.jr_tree.specs.declared.tree.Unit as declared_unit
use Rattle.jr_tree.specs.declared.row.Row.{Row}
use Rattle.jr_tree.specs.declared.label.Label.{Label}
use Rattle.jr_tree.specs.declared.label.Label.TheVariants as is
use Rattle.jr_tree.specs.declared.label.Role.{Role}
use Rattle.jr_tree.specs.declared.label.Sought.{Sought}
use Rattle.jr_tree.specs.Labels.{role_of, sought_by, nodes_of}
use Rattle.jr_tree.specs.Forest.{Forest, none, more, size}
use Rattle.jr_tree.specs.Decls.{program_labels}

abbrev pub Rows : Type 0
Rows = List Row

-- the rows of a forest whose roots are below the row over and behind the row before, from the number at on
abbrev pub rows_from : ℕ → ℕ → ℕ → Forest → Rows
rows_from over before at none = []
rows_from over before at (more l name kids rest) =
    record { label = l; name = name; parent = over; end = at + 1 + size kids; previous = before }
    ∷ rows_from at at (at + 1) kids ++ rows_from over at (at + 1 + size kids) rest

-- the rows of a program of these units
abbrev pub program_rows : List declared_unit.Unit → Rows
program_rows units = rows_from 0 0 0 (program_labels units)

-- ---- what stands at a number; past the end there is nothing, below itself

abbrev pub row : Rows → ℕ → Row
row p n = slice_index_or p n (record { label = is.Skip; name = []; parent = n; end = n + 1; previous = n })

abbrev pub label : Rows → ℕ → Label
label p n = (row p n).label

abbrev pub name : Rows → ℕ → Text
name p n = (row p n).name

abbrev pub parent : Rows → ℕ → ℕ
parent p n = (row p n).parent

abbrev pub end : Rows → ℕ → ℕ
end p n = (row p n).end

abbrev pub previous : Rows → ℕ → ℕ
previous p n = (row p n).previous

-- what the row declares, and what it looks for
abbrev pub role_at : Rows → ℕ → Role
role_at p n = role_of (label p n)

abbrev pub sought_at : Rows → ℕ → Sought
sought_at p n = sought_by (label p n)

-- how many nodes of trees stand in the first n rows
abbrev pub nodes_before : Rows → ℕ → ℕ
nodes_before p zero = 0
nodes_before p (suc n) = nodes_before p n + nodes_of (label p n)
