-- Access, as tests (JLS 6.6, 6.6.1, 6.6.2).
use Rattle.std.specs.Prelude.{ℕ, zero, suc, Bool, true, false, not, ◌&&◌, ◌||◌, length, Option, Some, None}
use Rattle.std.specs.Option.{option_map_or}
use Rattle.jr_tree.specs.declared.tree.ThisOrSuper.TheVariants as which
use Rattle.jr_tree.specs.declared.label.Role.{Role}
use Rattle.jr_tree.specs.declared.label.Role.TheVariants as role
use Rattle.jr_tree.specs.declared.label.Sought.{Sought}
use Rattle.jr_tree.specs.declared.label.Sought.TheVariants as sought
use Rattle.jr_tree.specs.Rows.{Rows, role_at, sought_at}
use Rattle.jr_defs.specs.declared.referent.Element.{Element}
use Rattle.jr_defs.specs.declared.referent.Element.TheVariants as element
use Rattle.jr_defs.specs.declared.referent.RowType.{RowType}
use Rattle.jr_defs.specs.Referents.{Table}
use Rattle.jr_plain.specs.Search.{any_below}
use Rattle.jr_plain.specs.Same.{same_role}
use Rattle.jr_plain.specs.Declarations.{is_type}
use Rattle.jr_plain.specs.Enclosing.{is_in_body, declaring_type, is_same_top_level}
use Rattle.jr_plain.specs.Modifiers.{is_public, is_protected, is_private, is_static}
use Rattle.jr_plain.specs.Packages.{is_same_package}
use Rattle.jr_plain.specs.Supertypes.{is_at_or_above}

-- locals, parameters and labels have no access
abbrev pub is_local_role : Role → Bool
is_local_role role.Local = true
is_local_role role.Parameter = true
is_local_role role.Label = true
is_local_role _ = false

-- what is not reached through an object: static members and types
abbrev pub needs_no_object : Rows → ℕ → Bool
needs_no_object p d = is_static p d || is_type p d

-- the type is that of the class s or of one below it
abbrev pub is_object_of : Rows → Table → ℕ → ℕ → Element → Bool
is_object_of p t s zero (element.Class c) = is_at_or_above p t c s
is_object_of p t s zero _ = false
is_object_of p t s (suc dims) _ = false

-- an instance member is reached through an object of the subclass s or below; without a receiver, or through super, it is (JLS 6.6.2.1)
abbrev pub is_through : Rows → Table → ℕ → ℕ → Option RowType → Bool
is_through p t s d None = true
is_through p t s d (Some a) = needs_no_object p d || is_object_of p t s a.dims a.element

-- the place stands in the body of a class s at or below the holder of d, which is reached through it
abbrev pub is_subclass_round : Rows → Table → ℕ → ℕ → Option RowType → ℕ → ℕ → Bool
is_subclass_round p t d o receiver holder s = is_in_body p s o && is_at_or_above p t s holder && is_through p t s d receiver

-- a protected member, outside its package: the place stands in the body of a class at or below the class that declares it
abbrev pub is_by_protected : Rows → Table → ℕ → ℕ → Option RowType → Bool
is_by_protected p t d o receiver =
    is_protected p d && option_map_or (λ holder. any_below (length p) (λ s. is_subclass_round p t d o receiver holder s)) (declaring_type p d) false

abbrev pub is_super_call : Sought → Bool
is_super_call (sought.ConstructorCall which.Super) = true
is_super_call _ = false

-- a protected constructor, outside its package: by super(..) alone (JLS 6.6.2.2)
abbrev pub is_by_super_call : Rows → ℕ → ℕ → Bool
is_by_super_call p d o = is_protected p d && same_role (role_at p d) role.Constructor && is_super_call (sought_at p o)

-- the declaration d is accessible at the place o, for a member through a receiver of this type where there is one
abbrev pub is_accessible : Rows → Table → ℕ → ℕ → Option RowType → Bool
is_accessible p t d o receiver = is_local_role (role_at p d) || (is_public p d || ((is_private p d && is_same_top_level p d o)
    || ((not (is_private p d) && is_same_package p d o) || (is_by_protected p t d o receiver || is_by_super_call p d o))))
