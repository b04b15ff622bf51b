-- Supertypes and subtyping, computed (JLS 8.1.4, 8.1.5, 9.1.3, 4.10).
use Rattle.std.specs.Prelude.{ℕ, zero, suc, Bool, true, false, not, ◌&&◌, ◌||◌, if◌then◌else◌, List, [], ◌∷◌, ◌++◌, length, flat_map, nat_eq}
use Rattle.std.specs.List.{list_any}
use Rattle.jr_tree.specs.declared.label.Label.{Label}
use Rattle.jr_tree.specs.declared.label.Label.TheVariants as is
use Rattle.jr_tree.specs.declared.label.NamePlace.TheVariants as place
use Rattle.jr_tree.specs.Rows.{Rows, label, parent}
use Rattle.jr_defs.specs.declared.referent.Element.{Element}
use Rattle.jr_defs.specs.declared.referent.Element.TheVariants as element
use Rattle.jr_defs.specs.declared.referent.RowType.{RowType}
use Rattle.jr_defs.specs.declared.referent.Referent.{Referent}
use Rattle.jr_defs.specs.declared.referent.Referent.TheVariants.{Declared}
use Rattle.jr_defs.specs.Referents.{Table}
use Rattle.jr_plain.specs.Search.{all_such, has, least}
use Rattle.jr_plain.specs.Same.{same_element}
use Rattle.jr_plain.specs.Declarations.{types, is_class, is_interface, is_object}
use Rattle.jr_plain.specs.Enclosing.{children}

abbrev pub is_superclass_label : Label → Bool
is_superclass_label (is.Name kind place.Superclass is_qualified) = true
is_superclass_label _ = false

abbrev pub is_superinterface_label : Label → Bool
is_superinterface_label (is.Name kind place.Superinterface is_qualified) = true
is_superinterface_label _ = false

-- the row n is the superclass of c by its name, or one of its superinterfaces
abbrev pub names_superclass : Rows → ℕ → ℕ → Bool
names_superclass p c n = is_superclass_label (label p n) && nat_eq (parent p n) c

abbrev pub names_superinterface : Rows → ℕ → ℕ → Bool
names_superinterface p c n = is_superinterface_label (label p n) && nat_eq (parent p n) c

-- a class that names no superclass has Object; Object itself has none (JLS 8.1.4)
abbrev pub has_implied_superclass : Rows → ℕ → Bool
has_implied_superclass p c = is_class p c && not (list_any (λ n. names_superclass p c n) (children p c)) && not (is_object p c)

-- the declaration to which a name refers
abbrev pub declaration : Referent → List ℕ
declaration (Declared d level) = d ∷ []
declaration _ = []

-- a direct supertype s of c, in the order of the rows n: the superclass first, then the superinterfaces as written
abbrev pub is_super_at : Rows → Table → ℕ → ℕ → ℕ → Bool
is_super_at p t c n s =
    ((names_superclass p c n || names_superinterface p c n) && has (declaration (t n)) s) || (nat_eq n c && has_implied_superclass p c && is_object p s)

-- Object, where it is implied as a superclass
abbrev pub implied_superclasses : Rows → ℕ → List ℕ
implied_superclasses p c = if has_implied_superclass p c then all_such (length p) (λ s. is_object p s) else []

-- the direct supertypes, in their order
abbrev pub supers : Rows → Table → ℕ → List ℕ
supers p t c = implied_superclasses p c ++ flat_map (λ n. if names_superclass p c n || names_superinterface p c n then declaration (t n) else []) (children p c)

-- the superclass
abbrev pub superclasses : Rows → Table → ℕ → List ℕ
superclasses p t c = implied_superclasses p c ++ flat_map (λ n. if names_superclass p c n then declaration (t n) else []) (children p c)

-- s is strictly above c, where the set has types below s; Object is above every interface too (JLS 4.10.2)
abbrev pub is_lower : Rows → Table → ℕ → List ℕ → ℕ → Bool
is_lower p t s set c = has (supers p t c) s || list_any (has set) (supers p t c) || (is_interface p c && is_object p s)

-- the types strictly below s
abbrev pub lower : Rows → Table → ℕ → List ℕ
lower p t s = least nat_eq (types p) (is_lower p t s)

-- s is strictly above c
abbrev pub is_above : Rows → Table → ℕ → ℕ → Bool
is_above p t c s = has (lower p t s) c

-- c itself, or above it
abbrev pub is_at_or_above : Rows → Table → ℕ → ℕ → Bool
is_at_or_above p t c s = nat_eq c s || is_above p t c s

-- ---- types

-- widening between primitive types (JLS 4.10.1): byte, short, int, long, and char below int
abbrev pub widens : Element → Element → Bool
widens element.Byte element.Short = true
widens element.Byte element.Int = true
widens element.Byte element.Long = true
widens element.Short element.Int = true
widens element.Short element.Long = true
widens element.Char element.Int = true
widens element.Char element.Long = true
widens element.Int element.Long = true
widens _ _ = false

-- class, interface and array types (JLS 4.3), by element type and dimensions
abbrev pub is_reference : ℕ → Element → Bool
is_reference (suc dims) e = true
is_reference zero (element.Class c) = true
is_reference zero _ = false

abbrev pub is_reference_type : RowType → Bool
is_reference_type a = is_reference a.dims a.element

abbrev pub is_null : Element → Bool
is_null element.Null = true
is_null _ = false

-- a class is below another
abbrev pub is_above_class : Rows → Table → Element → Element → Bool
is_above_class p t (element.Class c) (element.Class s) = is_above p t c s
is_above_class p t _ _ = false

abbrev pub is_object_type : Rows → Element → Bool
is_object_type p (element.Class s) = is_object p s
is_object_type p _ = false

-- the type of element a with m dimensions is a subtype of that of element b with n (JLS 4.10)
abbrev pub is_below : Rows → Table → Element → Element → ℕ → ℕ → Bool
is_below p t a b zero zero = same_element a b || widens a b || (is_null a && is_reference zero b) || is_above_class p t a b
is_below p t a b zero (suc n) = is_null a
is_below p t a b (suc m) zero = is_object_type p b
is_below p t a b (suc m) (suc n) = (same_element a b && nat_eq m n) || (is_reference m a && is_reference n b && is_below p t a b m n)

abbrev pub is_subtype : Rows → Table → RowType → RowType → Bool
is_subtype p t a b = is_below p t a.element b.element a.dims b.dims
