-- Members: what a type declares and what it inherits, computed (JLS 8.2, 8.3, 8.4.8, 8.5, 9.2).
use Rattle.std.specs.Prelude.{ℕ, Bool, false, not, ◌&&◌, ◌||◌, List, length, nat_eq, bytes_eq}
use Rattle.std.specs.List.{list_any}
use Rattle.std.specs.Option.{option_map_or}
use Rattle.jr_base.specs.declared.text.Text.{Text}
use Rattle.jr_tree.specs.declared.label.Role.{Role}
use Rattle.jr_tree.specs.declared.label.Role.TheVariants as role
use Rattle.jr_tree.specs.Rows.{Rows, name, role_at}
use Rattle.jr_defs.specs.declared.referent.Space.{Space}
use Rattle.jr_defs.specs.Referents.{Table}
use Rattle.jr_plain.specs.Search.{all_below, all_such, has, least}
use Rattle.jr_plain.specs.Same.{same_role}
use Rattle.jr_plain.specs.Declarations.{declares, types, is_interface, is_object}
use Rattle.jr_plain.specs.Enclosing.{is_member_role, is_declared_in, declaring_type, declared_by}
use Rattle.jr_plain.specs.Modifiers.{is_public, is_protected, is_private, is_static, is_in_interface}
use Rattle.jr_plain.specs.Packages.{is_same_package}
use Rattle.jr_plain.specs.Types.{is_same_signature}
use Rattle.jr_plain.specs.Supertypes.{supers, is_at_or_above}

-- a field hides fields of its name, a type types of its name (JLS 8.3, 8.5)
abbrev pub is_same_named : Rows → Role → ℕ → ℕ → Bool
is_same_named p kind e d = same_role (role_at p e) kind && same_role (role_at p d) kind && bytes_eq (name p e) (name p d)

-- a method overrides or hides methods of its signature (JLS 8.4.8)
abbrev pub are_same_methods : Rows → Table → ℕ → ℕ → Bool
are_same_methods p t e d = same_role (role_at p e) role.Method && same_role (role_at p d) role.Method && is_same_signature p t e d

abbrev pub replaces : Rows → Table → ℕ → ℕ → Bool
replaces p t e d = is_same_named p role.Field e d || is_same_named p role.Type e d || are_same_methods p t e d

-- c does not declare a member that hides or overrides d
abbrev pub is_left : Rows → Table → ℕ → ℕ → Bool
is_left p t c d = not (list_any (λ e. replaces p t e d) (declared_by p c))

-- not private, and without an access modifier only inside its package (JLS 8.2)
abbrev pub can_inherit : Rows → ℕ → ℕ → Bool
can_inherit p c d = not (is_private p d) && (is_public p d || (is_protected p d || is_same_package p c d))

-- what interfaces have of Object does not reach classes from them: those have it from their superclass
abbrev pub passes : Rows → ℕ → ℕ → Bool
passes p s d = not (is_interface p s) || is_in_interface p d

-- a public instance method of Object (JLS 9.2)
abbrev pub is_object_method : Rows → ℕ → Bool
is_object_method p d = same_role (role_at p d) role.Method && option_map_or (is_object p) (declaring_type p d) false && is_public p d && not (is_static p d)

-- d is a member of c by inheritance, where the set has supertypes of which it is one
abbrev pub is_inherited : Rows → Table → ℕ → List ℕ → ℕ → Bool
is_inherited p t d set c = list_any (λ s. has set s && passes p s d) (supers p t c) && can_inherit p c d && is_left p t c d

-- neither the interface c nor an interface above it declares the method
abbrev pub is_left_above : Rows → Table → ℕ → ℕ → Bool
is_left_above p t c d = all_below (length p) (λ s. not (is_interface p s && is_at_or_above p t c s) || is_left p t s d)

abbrev pub has_member : Rows → Table → ℕ → List ℕ → ℕ → Bool
has_member p t d set c = is_declared_in p c d || is_inherited p t d set c || (is_interface p c && is_object_method p d && is_left_above p t c d)

-- the types of which d is a member
abbrev pub holders : Rows → Table → ℕ → List ℕ
holders p t d = least nat_eq (types p) (has_member p t d)

-- d is a member of the type c
abbrev pub is_member : Rows → Table → ℕ → ℕ → Bool
is_member p t c d = is_member_role (role_at p d) && has (holders p t d) c

-- the members of the type c
abbrev pub members : Rows → Table → ℕ → List ℕ
members p t c = all_such (length p) (λ d. is_member p t c d)

-- the members of the type with this name, of this kind
abbrev pub is_member_named : Rows → Table → Space → Text → ℕ → ℕ → Bool
is_member_named p t kind x c d = declares p kind x d && is_member p t c d

abbrev pub members_named : Rows → Table → Space → Text → ℕ → List ℕ
members_named p t kind x c = all_such (length p) (λ d. is_member_named p t kind x c d)
