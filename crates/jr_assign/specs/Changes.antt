-- A final variable is changed only where it is blank, and a field only by a constructor or initializer of its class (JLS 4.12.4, 8.3.1.2).
use Rattle.std.specs.Prelude.{ℕ, zero, suc, ◌+◌, Bool, true, false, not, ◌&&◌, ◌||◌, if◌then◌else◌, List, [], ◌∷◌, ◌++◌, length, Option, Some, None, nat_eq, nat_lt, slice_index_or}
use Rattle.jr_tree.specs.declared.label.Label.{Label}
use Rattle.jr_tree.specs.declared.label.Label.TheVariants as is
use Rattle.jr_tree.specs.Rows.{Rows, label, parent, end}
use Rattle.jr_rule.specs.declared.Rule.TheVariants as rule
use Rattle.jr_rule.specs.declared.Rule.{Rule}
use Rattle.jr_faults.specs.Added.{is_rule}
use Rattle.jr_plain.specs.Search.{all_such}
use Rattle.jr_assign.specs.declared.fact.Fact.{Fact}

abbrev pub Facts : Type 0
Facts = List Fact

-- what is known of a row besides its label
abbrev pub fact : Facts → ℕ → Fact
fact f n = slice_index_or f n (record { truth = None; way = None; last = None; has_default = false; read = None; assigned = None })

-- ---- places

-- the row has an initializer
abbrev pub has_value : Rows → ℕ → Bool
has_value p v = nat_lt (v + 1) (end p v)

-- the body in which a field stands, below its declaration
abbrev pub field_body : Rows → ℕ → ℕ
field_body p v = parent p (parent p v)

abbrev pub is_interface : Label → Bool
is_interface (is.Interface modifiers is_member) = true
is_interface _ = false

-- ---- the member that holds a row

abbrev pub is_member : Label → Bool
is_member (is.Field modifiers dims) = true
is_member (is.Method modifiers is_void has_body) = true
is_member (is.Constructor modifiers) = true
is_member is.DefaultConstructor = true
is_member (is.Initializer is_static) = true
is_member _ = false

abbrev pub member_at : Rows → (ℕ → ℕ) → ℕ → ℕ
member_at p known n = if is_member (label p n) then n else known (parent p n)

-- what a list of the first rows says
abbrev pub member_in : List ℕ → ℕ → ℕ
member_in all m = slice_index_or all m 0

-- the members that hold the first k rows; 0 where there is none
abbrev pub members : Rows → ℕ → List ℕ
members p zero = []
members p (suc k) = let all = members p k in all ++ member_at p (member_in all) k ∷ []

-- ---- what may not be changed

-- the member m is a constructor or an initializer that stands in this body
abbrev pub builds : Label → Rows → ℕ → ℕ → Bool
builds (is.Constructor modifiers) p m body = nat_eq (parent p m) body
builds (is.Initializer is_static) p m body = nat_eq (parent p m) body
builds (is.Field modifiers dims) p m body = nat_eq (field_body p m) body
builds _ p m body = false

-- a variable that the member m may not change; fields of interfaces are final without a word (9.3)
abbrev pub is_fixed : Label → Rows → ℕ → ℕ → Bool
is_fixed (is.Local is_final dims) p v m = is_final && has_value p v
is_fixed (is.Parameter is_final dims) p v m = is_final
is_fixed (is.Field modifiers dims) p v m =
    (modifiers.is_final || is_interface (label p (parent p (field_body p v)))) && (has_value p v || not (builds (label p m) p m (field_body p v)))
is_fixed _ p v m = false

abbrev pub is_changed_wrongly : Rows → (ℕ → ℕ) → Option ℕ → ℕ → Bool
is_changed_wrongly p member None n = false
is_changed_wrongly p member (Some v) n = is_fixed (label p v) p v (member n)

-- ---- the faults

-- for each row the variable that is changed there
abbrev pub Changed : Type 0
Changed = List (Option ℕ)

abbrev pub is_wrong_at : Rows → Changed → (ℕ → ℕ) → ℕ → Bool
is_wrong_at p changed member n = is_changed_wrongly p member (slice_index_or changed n None) n

-- the rows that break the rule
abbrev pub wrong_rows : Rows → Changed → List ℕ
wrong_rows p changed = all_such (length p) (is_wrong_at p changed (member_in (members p (length p))))

-- the rules on locals that are read and not assigned and on blank finals, and besides on finals that are changed
abbrev pub is_of_courses : Rule → Bool
is_of_courses one = is_rule rule.UnassignedLocal one || is_rule rule.UnassignedFinal one

abbrev pub is_of_assignment : Rule → Bool
is_of_assignment one = is_rule rule.FinalAssignment one || is_of_courses one
