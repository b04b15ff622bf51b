-- Rule 12, computed: a field that an initializer reads too early (JLS 8.3.2.3).
use Rattle.std.specs.Prelude.{ℕ, Bool, true, false, not, ◌&&◌, ◌||◌, ◌+◌, length, nat_eq, nat_lt}
use Rattle.jr_tree.specs.declared.label.Label.{Label}
use Rattle.jr_tree.specs.declared.label.Label.TheVariants as is
use Rattle.jr_tree.specs.declared.label.Role.TheVariants as role
use Rattle.jr_tree.specs.declared.label.Sought.{Sought}
use Rattle.jr_tree.specs.declared.label.Sought.TheVariants as sought
use Rattle.jr_tree.specs.Rows.{Rows, label, parent, end, role_at, sought_at}
use Rattle.jr_defs.specs.Referents.{Table}
use Rattle.jr_plain.specs.Search.{any_below}
use Rattle.jr_plain.specs.Same.{same_role}
use Rattle.jr_plain.specs.Enclosing.{is_declared_in, innermost}
use Rattle.jr_plain.specs.Modifiers.{is_static}
use Rattle.jr_plain.specs.Instances.{is_member_round, is_in_static_context}
use Rattle.jr_plain.specs.Typing.{is_assign}
use Rattle.jr_rules.specs.TypedTests.{declared_row, found}

-- a name without a dot, or the first identifier of one with dots
abbrev pub is_simple : Sought → Bool
is_simple (sought.Simple kind) = true
is_simple _ = false

abbrev pub is_initializing : Label → Bool
is_initializing (is.Fields modifiers) = true
is_initializing (is.Initializer is_static) = true
is_initializing _ = false

abbrev pub is_plain_assignment : Label → Bool
is_plain_assignment (is.Assign op) = is_assign op
is_plain_assignment _ = false

-- the left side of a plain assignment
abbrev pub is_assigned_to : Rows → ℕ → Bool
is_assigned_to p o = is_plain_assignment (label p (parent p o)) && nat_eq o (parent p o + 1)

-- both the place and the field are static, or neither is
abbrev pub are_alike : Rows → ℕ → ℕ → Bool
are_alike p o d = (is_in_static_context p o && is_static p d) || (not (is_in_static_context p o) && not (is_static p d))

-- the innermost class is c, and the place is an initializer of it
abbrev pub is_in_initializer : Rows → ℕ → ℕ → Bool
is_in_initializer p o c = any_below (length p) (λ m. is_member_round p o c m && is_initializing (label p m))

-- a field of the innermost class that is declared later or is being initialized
abbrev pub is_early : Rows → ℕ → ℕ → Bool
is_early p o d = same_role (role_at p d) role.Field && nat_lt o (end p d) && are_alike p o d
    && found (innermost p o) (λ c. is_declared_in p c d && is_in_initializer p o c)

-- in an initializer, such a field by its simple name, other than as the left side of a plain assignment
abbrev pub is_used_too_early : Rows → Table → ℕ → Bool
is_used_too_early p t o = is_simple (sought_at p o) && not (is_assigned_to p o) && found (declared_row (t o)) (λ d. is_early p o d)
