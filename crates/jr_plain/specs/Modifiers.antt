-- The modifiers of declarations, with those that an interface gives its members, as tests (JLS 6.6, 8.1.1, 8.3.1, 8.4.3, 8.5.2, 9.3, 9.4, 9.5).
use Rattle.std.specs.Prelude.{ℕ, Bool, true, false, not, ◌&&◌, ◌||◌, is_some}
use Rattle.std.specs.Option.{option_map_or}
use Rattle.jr_tree.specs.declared.label.Label.{Label}
use Rattle.jr_tree.specs.declared.label.Label.TheVariants as is
use Rattle.jr_tree.specs.declared.label.Role.TheVariants as role
use Rattle.jr_tree.specs.Rows.{Rows, label, role_at}
use Rattle.jr_defs.specs.Modifiers.{written, access_of, final_variable}
use Rattle.jr_plain.specs.Same.{same_role}
use Rattle.jr_plain.specs.Declarations.{is_type, is_class, is_interface}
use Rattle.jr_plain.specs.Enclosing.{declaring_type, constructed_class}

-- a member that an interface declares
abbrev pub is_in_interface : Rows → ℕ → Bool
is_in_interface p d = option_map_or (is_interface p) (declaring_type p d) false

abbrev pub is_default_constructor : Label → Bool
is_default_constructor is.DefaultConstructor = true
is_default_constructor _ = false

-- the default constructor of a class that an interface declares
abbrev pub is_default_in_interface : Rows → ℕ → Bool
is_default_in_interface p d = is_default_constructor (label p d) && option_map_or (is_in_interface p) (constructed_class p d) false

-- what an interface declares is public, and so is the default constructor of a class that it declares (JLS 8.8.9, 9.3, 9.4, 9.5)
abbrev pub is_public : Rows → ℕ → Bool
is_public p d = (access_of p d).is_public || (is_in_interface p d || is_default_in_interface p d)

abbrev pub is_protected : Rows → ℕ → Bool
is_protected p d = (access_of p d).is_protected

abbrev pub is_private : Rows → ℕ → Bool
is_private p d = (access_of p d).is_private

-- fields and types of interfaces are static, and so are member interfaces (JLS 9.3, 9.5, 8.5.2)
abbrev pub is_static : Rows → ℕ → Bool
is_static p d = (written (label p d)).is_static || ((same_role (role_at p d) role.Field || is_type p d) && is_in_interface p d) || is_interface p d

-- fields of interfaces are final (JLS 9.3)
abbrev pub is_final : Rows → ℕ → Bool
is_final p d = final_variable (label p d) || (same_role (role_at p d) role.Field && is_in_interface p d)

-- methods of interfaces are abstract, and so is an interface itself (JLS 9.4, 9.1.1.1)
abbrev pub is_abstract : Rows → ℕ → Bool
is_abstract p d = (written (label p d)).is_abstract || (same_role (role_at p d) role.Method && is_in_interface p d) || is_interface p d

-- a member class that is not static has objects with an enclosing object (JLS 8.1.3)
abbrev pub is_inner : Rows → ℕ → Bool
is_inner p c = is_class p c && is_some (declaring_type p c) && not (is_static p c)
