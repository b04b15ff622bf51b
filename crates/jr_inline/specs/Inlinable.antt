-- The local that is inlined (JLS 6.3, 14.4, 15.14, 15.15, 15.26).
use Rattle.std.specs.Prelude.{ℕ, Bool, true, false, not, ◌&&◌, if◌then◌else◌, List, Option, Some, None, is_some, nat_eq, nat_le, slice_index_or}
use Rattle.jr_tree.specs.declared.label.Label.{Label}
use Rattle.jr_tree.specs.declared.label.Label.TheVariants as is
use Rattle.jr_tree.specs.declared.label.Role.TheVariants as role
use Rattle.jr_tree.specs.Rows.{Rows, label, parent, role_at}
use Rattle.jr_defs.specs.declared.referent.Referent.{Referent}
use Rattle.jr_defs.specs.declared.referent.Referent.TheVariants.{Unbound}
use Rattle.jr_plain.specs.Same.{same_role}
use Rattle.jr_plain.specs.Search.{first_below}
use Rattle.jr_shapes.specs.Parts.{end_of}
use Rattle.jr_change.specs.declared.project.Project.{Project}
use Rattle.jr_draft.specs.Asking.{declared_by, rows_of, table_of}
use Rattle.jr_draft.specs.Drafting.{plus}
use Rattle.jr_inline.specs.declared.local.Local.{Local}

-- ---- labels

abbrev pub is_value_by : Label → Bool
is_value_by is.Value = true
is_value_by _ = false

abbrev pub is_paren_by : Label → Bool
is_paren_by is.Paren = true
is_paren_by _ = false

abbrev pub is_group_by : Label → Bool
is_group_by is.Group = true
is_group_by _ = false

-- it assigns to its first operand
abbrev pub is_assignment_by : Label → Bool
is_assignment_by (is.Assign op) = true
is_assignment_by (is.PreStep op) = true
is_assignment_by (is.PostStep op) = true
is_assignment_by _ = false

abbrev pub is_value : Rows → ℕ → Bool
is_value p n = is_value_by (label p n)

abbrev pub is_paren : Rows → ℕ → Bool
is_paren p n = is_paren_by (label p n)

abbrev pub is_group : Rows → ℕ → Bool
is_group p n = is_group_by (label p n)

abbrev pub is_assignment : Rows → ℕ → Bool
is_assignment p n = is_assignment_by (label p n)

abbrev pub is_local : Rows → ℕ → Bool
is_local p n = same_role (role_at p n) role.Local

-- ---- the local and its scope

-- the initializer is an expression, and no list: the row right below is its value
abbrev pub has_value : Rows → ℕ → Bool
has_value p d = nat_eq (parent p (plus d 1)) d && is_value p (plus d 1)

abbrev pub has_expression : Rows → ℕ → Bool
has_expression p d = is_local p d && has_value p d

-- a local with an expression as initializer: its row, that of its declaration, and that of the expression
abbrev pub local_of : Rows → ℕ → Option Local
local_of p d = if has_expression p d then Some (record { declarator = d; statement = parent p d; value = plus (plus d 1) 1 }) else None

-- what holds the scope of a declaration that stands right below a row: that row, or the switch of the group that it is
abbrev pub scope_over : Rows → ℕ → ℕ
scope_over p over = if is_group p over then parent p over else over

-- the scope of a local ends with its block, its `for` or its switch
abbrev pub scope_end : Rows → Local → ℕ
scope_end p local = end_of p (scope_over p (parent p local.statement))

-- ---- assignments

abbrev pub is_bare : Rows → ℕ → Bool
is_bare p n = not (is_paren p n)

-- the first of these rows that is no pair of parentheses
abbrev pub first_bare : Rows → ℕ → ℕ → Option ℕ
first_bare p first behind = first_below behind (λ k. nat_le first k && is_bare p k)

-- what a row assigns to, if it assigns: its first operand without the parentheses round it
abbrev pub assigned_by : Rows → ℕ → Option ℕ
assigned_by p n = if is_assignment p n then first_bare p (plus n 1) (end_of p n) else None

-- what is found is this row
abbrev pub is_row : Option ℕ → ℕ → Bool
is_row None n = false
is_row (Some found) n = nat_eq found n

-- the declaration to which a row refers, by the table of the program
abbrev pub refers_by : List Referent → ℕ → Option ℕ
refers_by table n = declared_by (slice_index_or table n Unbound)

abbrev pub is_operand_of : List Referent → ℕ → Option ℕ → Bool
is_operand_of table d None = false
is_operand_of table d (Some operand) = is_row (refers_by table operand) d

-- the row assigns to the variable
abbrev pub assigns_to : Rows → List Referent → ℕ → ℕ → Bool
assigns_to p table d n = is_operand_of table d (assigned_by p n)

-- the first of these rows that assigns to the variable
abbrev pub first_assignment : Rows → List Referent → ℕ → ℕ → ℕ → Option ℕ
first_assignment p table d first behind = first_below behind (λ n. nat_le first n && assigns_to p table d n)

-- some assignment or step in its scope changes the local
abbrev pub is_assigned : Rows → List Referent → Local → Bool
is_assigned p table local = is_some (first_assignment p table local.declarator local.declarator (scope_end p local))

abbrev pub if_never_assigned : Rows → List Referent → Option Local → Option Local
if_never_assigned p table None = None
if_never_assigned p table (Some local) = if is_assigned p table local then None else Some local

-- the local that can be inlined: it has an expression as initializer, and is never assigned again
abbrev pub inlinable : Project → Option ℕ → Option Local
inlinable old None = None
inlinable old (Some d) = if_never_assigned (rows_of old) (table_of old) (local_of (rows_of old) d)
