-- Which variables are assigned or stepped, and where that breaks the rule on finals (JLS 4.12.4, 8.3.1.2, 15.14, 15.15, 15.26).
use Rattle.std.specs.Prelude.{ℕ, zero, suc, ◌+◌, if◌then◌else◌, List, [], ◌∷◌, ◌++◌, length, Option, Some, None, nat_eq, slice_index_or}
use Rattle.jr_base.specs.declared.kind.Symbol.{Symbol}
use Rattle.jr_base.specs.declared.kind.Symbol.TheVariants as y
use Rattle.jr_tree.specs.declared.label.Label.{Label}
use Rattle.jr_tree.specs.declared.label.Label.TheVariants as is
use Rattle.jr_tree.specs.declared.label.Role.{Role}
use Rattle.jr_tree.specs.declared.label.Role.TheVariants as role
use Rattle.jr_tree.specs.Rows.{Rows, label, parent, role_at}
use Rattle.jr_defs.specs.Referents.{Table, entries}
use Rattle.jr_places.specs.Tabulated.{tabulated}
use Rattle.jr_supers.specs.Tabled.{declared}
use Rattle.jr_view.specs.declared.View.{View}
use Rattle.jr_assign.specs.Changes.{wrong_rows}
use Rattle.jr_assign_faults.specs.declared.operands.Operand.{Operand}
use Rattle.jr_assign_faults.specs.declared.operands.Operand.TheVariants as operand

-- ---- what is assigned or stepped

-- the left side of an assignment: plain, or compound
abbrev pub left_side : Symbol → Operand
left_side y.Assign = operand.Target
left_side _ = operand.Changed

-- what the row n is that stands right below the row over, of this label: in parentheses it is what these are
abbrev pub operand_in : Label → ℕ → Operand → ℕ → Operand
operand_in (is.Assign op) over round n = if nat_eq n (over + 1) then left_side op else operand.Other
operand_in (is.PreStep op) over round n = operand.Changed
operand_in (is.PostStep op) over round n = operand.Changed
operand_in is.Paren over round n = round
operand_in _ over round n = operand.Other

abbrev pub operand_by : Rows → Operand → ℕ → Operand
operand_by p round n = operand_in (label p (parent p n)) (parent p n) round n

abbrev pub operand_of : List Operand → ℕ → Operand
operand_of all n = slice_index_or all n operand.Other

-- what the first k rows are
abbrev pub operands : Rows → ℕ → List Operand
operands p zero = []
operands p (suc k) = let all = operands p k in all ++ operand_by p (operand_of all (parent p k)) k ∷ []

-- ---- the variable that is changed at a row

abbrev pub variable_by : Role → ℕ → Option ℕ
variable_by role.Local v = Some v
variable_by role.Parameter v = Some v
variable_by role.Field v = Some v
variable_by _ v = None

abbrev pub variable_of : Rows → Option ℕ → Option ℕ
variable_of p None = None
variable_of p (Some v) = variable_by (role_at p v) v

abbrev pub changed_by : Rows → Table → Operand → ℕ → Option ℕ
changed_by p t operand.Other n = None
changed_by p t operand.Target n = variable_of p (declared (t n))
changed_by p t operand.Changed n = variable_of p (declared (t n))

abbrev pub changed_in : Rows → Table → List Operand → ℕ → Option ℕ
changed_in p t all n = changed_by p t (operand_of all n) n

abbrev pub changes : Rows → Table → ℕ → List (Option ℕ)
changes p t k = tabulated (changed_in p t (operands p k)) k

-- the rows at which a final variable is changed and may not be
abbrev pub final_rows : Rows → Table → List ℕ
final_rows p t = wrong_rows p (changes p t (length p))

-- ---- of a view

abbrev pub rows_in : View → Rows
rows_in view = view.sight.world.under.rows.now

abbrev pub table_in : View → Table
table_in view = entries view.sight.world.under.table.now
