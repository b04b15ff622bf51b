-- Static contexts, and the classes that have an instance at a place, computed (JLS 8.1.3, 8.3.2, 8.4.3.2, 8.8.7.1, 15.8.3, 15.8.4).
use Rattle.std.specs.Prelude.{ℕ, Bool, true, false, not, ◌&&◌, ◌||◌, List, length, nat_eq, nat_lt, nat_le}
use Rattle.std.specs.List.{list_any}
use Rattle.std.specs.Option.{option_map_or}
use Rattle.jr_tree.specs.declared.label.Label.{Label}
use Rattle.jr_tree.specs.declared.label.Label.TheVariants as is
use Rattle.jr_tree.specs.Rows.{Rows, label, parent, end}
use Rattle.jr_defs.specs.Instances.{is_static_code}
use Rattle.jr_plain.specs.Search.{any_below, has, least}
use Rattle.jr_plain.specs.Declarations.{types, is_interface}
use Rattle.jr_plain.specs.Enclosing.{is_body_of, is_declared_in, innermost}
use Rattle.jr_plain.specs.Modifiers.{is_inner}

-- the member m, in the body of the type c, holds the place
abbrev pub is_member_round : Rows → ℕ → ℕ → ℕ → Bool
is_member_round p o c m = is_body_of p c (parent p m) && nat_le m o && nat_lt o (end p m)

-- the place stands in static code of the type, or in a field of an interface
abbrev pub is_static_in : Rows → ℕ → ℕ → Bool
is_static_in p o c = any_below (length p) (λ m. is_member_round p o c m && (is_static_code (label p m) || is_interface p c))

abbrev pub is_in_static_context : Rows → ℕ → Bool
is_in_static_context p o = option_map_or (λ c. is_static_in p o c) (innermost p o) false

abbrev pub is_call_of_constructor : Label → Bool
is_call_of_constructor (is.ConstructorCall target) = true
is_call_of_constructor _ = false

-- the place is an argument of a call of a constructor, of the innermost class
abbrev pub is_in_constructor_call : Rows → ℕ → Bool
is_in_constructor_call p o = any_below (length p) (λ call. is_call_of_constructor (label p call) && nat_lt call o && nat_lt o (end p call))

-- c is the innermost type round the place
abbrev pub is_innermost : Rows → ℕ → ℕ → Bool
is_innermost p o c = option_map_or (λ e. nat_eq e c) (innermost p o) false

-- there is an instance of c, where the set has classes of which there is one
abbrev pub has_instance_by : Rows → ℕ → List ℕ → ℕ → Bool
has_instance_by p o set c =
    (is_innermost p o c && not (is_in_static_context p o)) || list_any (λ b. is_inner p b && is_declared_in p c b) set

-- the classes of which there is an instance at the place
abbrev pub instances : Rows → ℕ → List ℕ
instances p o = least nat_eq (types p) (has_instance_by p o)

-- there is an instance of c at the place: of the innermost class, outside static contexts, and of the classes that enclose an instance
-- of an inner class (JLS 8.1.3)
abbrev pub has_instance : Rows → ℕ → ℕ → Bool
has_instance p o c = has (instances p o) c
