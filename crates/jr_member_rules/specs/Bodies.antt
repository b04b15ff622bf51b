-- Rule 20, computed: bodies of methods, names of constructors, and what classes and interfaces may not declare (JLS 8.1.1.1, 8.4.3.1, 8.4.7, 8.8, 9.1.4, 9.3.1).
use Rattle.std.specs.Prelude.{ℕ, ◌+◌, Bool, true, false, not, ◌&&◌, ◌||◌, if◌then◌else◌, Option, Some, None, nat_eq, bytes_eq}
use Rattle.std.specs.Option.{option_map_or}
use Rattle.jr_tree.specs.declared.label.Label.{Label}
use Rattle.jr_tree.specs.declared.label.Label.TheVariants as is
use Rattle.jr_tree.specs.declared.label.Role.TheVariants as role
use Rattle.jr_tree.specs.Rows.{Rows, label, name, parent, role_at}
use Rattle.jr_defs.specs.Modifiers.{written}
use Rattle.jr_defs.specs.MemberRules.{has_body}
use Rattle.jr_plain.specs.Same.{same_role}
use Rattle.jr_plain.specs.Declarations.{is_class, is_interface}
use Rattle.jr_plain.specs.Enclosing.{is_body_of, declaring_type, constructed_class}
use Rattle.jr_plain.specs.Modifiers.{is_abstract, is_in_interface}
use Rattle.jr_plain.specs.Overriding.{is_method}

-- the method is native
abbrev pub is_native : Rows → ℕ → Bool
is_native p m = (written (label p m)).is_native

-- an abstract or native method has a body, or another one has none
abbrev pub has_wrong_body : Rows → ℕ → Bool
has_wrong_body p m = is_method p m && (((is_abstract p m || is_native p m) && has_body (label p m)) || ((not (is_abstract p m) && not (is_native p m)) && not (has_body (label p m))))

-- a constructor that is written
abbrev pub is_constructor_label : Label → Bool
is_constructor_label (is.Constructor modifiers) = true
is_constructor_label _ = false

-- the constructor has another name than its class
abbrev pub is_named_otherwise : Rows → ℕ → Bool
is_named_otherwise p k = is_constructor_label (label p k) && option_map_or (λ c. not (bytes_eq (name p k) (name p c))) (constructed_class p k) false

-- an abstract method in a class that is not abstract
abbrev pub is_abstract_in_class : Rows → ℕ → Bool
is_abstract_in_class p m = is_method p m && is_abstract p m && option_map_or (λ c. is_class p c && not (is_abstract p c)) (declaring_type p m) false

-- a constructor in an interface
abbrev pub is_constructor_in_interface : Rows → ℕ → Bool
is_constructor_in_interface p k = option_map_or (is_interface p) (constructed_class p k) false

-- an initializer block
abbrev pub is_initializer : Label → Bool
is_initializer (is.Initializer is_static) = true
is_initializer _ = false

-- the type in whose body the row stands, right below it
abbrev pub body_type : Rows → ℕ → Option ℕ
body_type p k = let c = parent p (parent p k) in if is_body_of p c (parent p k) then Some c else None

-- an initializer in an interface
abbrev pub is_initializer_in_interface : Rows → ℕ → Bool
is_initializer_in_interface p k = is_initializer (label p k) && option_map_or (is_interface p) (body_type p k) false

-- a field of an interface without an initializer
abbrev pub is_not_initialized : Rows → ℕ → Bool
is_not_initialized p d = same_role (role_at p d) role.Field && is_in_interface p d && not (nat_eq (parent p (d + 1)) d)

-- one of the tests of rule 20 finds the row
abbrev pub stands_wrong : Rows → ℕ → Bool
stands_wrong p n = has_wrong_body p n || (is_named_otherwise p n || (is_abstract_in_class p n || (is_constructor_in_interface p n || (is_initializer_in_interface p n || is_not_initialized p n))))
