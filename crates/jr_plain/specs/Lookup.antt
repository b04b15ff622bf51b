-- Lookup, computed: what an occurrence refers to (JLS 6.5, 15.9, 15.11, 15.12, 8.8.7.1, 14.15).
use Rattle.std.specs.Prelude.{ℕ, zero, suc, ◌+◌, Bool, true, false, not, ◌&&◌, if◌then◌else◌, List, [], ◌∷◌, ◌++◌, length, codes, Option, Some, None, option_map, nat_eq, bytes_eq}
use Rattle.std.specs.List.{flat_map}
use Rattle.std.specs.Option.{option_eq, option_map_or}
use Rattle.jr_base.specs.declared.text.Text.{Text}
use Rattle.jr_tree.specs.declared.tree.ThisOrSuper.{ThisOrSuper}
use Rattle.jr_tree.specs.declared.tree.ThisOrSuper.TheVariants as which
use Rattle.jr_tree.specs.declared.label.NameKind.{NameKind}
use Rattle.jr_tree.specs.declared.label.NameKind.TheVariants as kind
use Rattle.jr_tree.specs.declared.label.Sought.{Sought}
use Rattle.jr_tree.specs.declared.label.Sought.TheVariants as sought
use Rattle.jr_tree.specs.Rows.{Rows, label, name, parent, role_at, sought_at}
use Rattle.jr_defs.specs.declared.referent.Space.{Space}
use Rattle.jr_defs.specs.declared.referent.Space.TheVariants as space
use Rattle.jr_defs.specs.declared.referent.Element.{Element}
use Rattle.jr_defs.specs.declared.referent.Element.TheVariants as element
use Rattle.jr_defs.specs.declared.referent.RowType.{RowType}
use Rattle.jr_defs.specs.declared.referent.Referent.{Referent}
use Rattle.jr_defs.specs.declared.referent.Referent.TheVariants.{Unbound, ArrayLength, Package}
use Rattle.jr_defs.specs.Referents.{Table}
use Rattle.jr_defs.specs.Packages.{spelled}
use Rattle.jr_defs.specs.Types.{class_type}
use Rattle.jr_defs.specs.Scope.{Depth}
use Rattle.jr_defs.specs.Lookup.{level_of, arguments_by}
use Rattle.jr_plain.specs.Search.{any_below, last_below, all_such, gathered}
use Rattle.jr_plain.specs.Same.{same_type}
use Rattle.jr_plain.specs.Lists.{or_else, at_level}
use Rattle.jr_plain.specs.Referents.{answer_of}
use Rattle.jr_plain.specs.Declarations.{declares, is_object}
use Rattle.jr_plain.specs.Enclosing.{is_body_of, is_in_body, innermost, is_constructor_of}
use Rattle.jr_plain.specs.Modifiers.{is_inner}
use Rattle.jr_plain.specs.Packages.{is_type_of_package}
use Rattle.jr_plain.specs.Types.{named_type}
use Rattle.jr_plain.specs.Supertypes.{superclasses}
use Rattle.jr_plain.specs.Members.{is_member, is_member_named, members_named}
use Rattle.jr_plain.specs.Imports.{is_static_import, is_package}
use Rattle.jr_plain.specs.Scope.{depth_at, depths, is_imported, is_somewhere_in_scope, is_visible}
use Rattle.jr_plain.specs.Instances.{has_instance}
use Rattle.jr_plain.specs.Overloads.{Types, argument_types, choice, imported_choice}

-- declarations, each with the level through which it is found
abbrev pub Candidates : Type 0
Candidates = List (ℕ × Option ℕ)

-- ---- names without a dot

-- the declaration d with its level, where it is visible so far in
abbrev pub visible_at : Rows → Table → Space → Text → ℕ → ℕ → Depth → Candidates
visible_at p t k x o d r = if is_visible p t k x o d r then (d, level_of (role_at p d) r) ∷ [] else []

-- visible at the place, each with its level
abbrev pub visible_through : Rows → Table → Space → Text → ℕ → Candidates
visible_through p t k x o = gathered (length p) (λ d. if declares p k x d then gathered (depths p) (λ r. visible_at p t k x o d (depth_at r)) else [])

-- no declaration of this kind and name is in scope
abbrev pub none_in_scope : Rows → Table → Space → Text → ℕ → Bool
none_in_scope p t k x o = not (any_below (length p) (λ d. is_somewhere_in_scope p t k x o d))

-- a simple name, by its kind; an ambiguous one is a variable if one is in scope, else a type (JLS 6.5.2)
abbrev pub simple_candidates : Rows → Table → Text → ℕ → NameKind → Candidates
simple_candidates p t x o kind.Variable = visible_through p t space.Variable x o
simple_candidates p t x o kind.Type = visible_through p t space.Type x o
simple_candidates p t x o kind.PackageOrType = visible_through p t space.Type x o
simple_candidates p t x o kind.Ambiguous = visible_through p t space.Variable x o ++ (if none_in_scope p t space.Variable x o then visible_through p t space.Type x o else [])
simple_candidates p t x o kind.Package = []

-- ---- what stands before a dot

-- a class whose members are meant, with the type of the expression before the dot if it is one
abbrev pub Before : Type 0
Before = ℕ × Option RowType

abbrev pub same_before : Before → Before → Bool
same_before a b = nat_eq a.0 b.0 && option_eq same_type a.1 b.1

-- an expression of the type c
abbrev pub object : ℕ → Before
object c = (c, Some (class_type c))

-- an expression of this type: of a class, or an array, which has the members of Object
abbrev pub objects_of : Rows → ℕ → Element → List Before
objects_of p zero (element.Class c) = object c ∷ []
objects_of p zero _ = []
objects_of p (suc dims) e = flat_map (λ c. object c ∷ []) (all_such (length p) (λ c. is_object p c))

-- the expression before the dot of o
abbrev pub objects_before : Rows → Types → ℕ → List Before
objects_before p type_of o = if nat_eq (parent p (o + 1)) o then option_map_or (λ a. objects_of p a.dims a.element) (type_of (o + 1)) [] else []

-- what is before the dot of o, in its first child
abbrev pub receivers : Rows → Table → Types → ℕ → List Before
receivers p t type_of o = objects_before p type_of o ++ option_map_or (λ c. (c, None) ∷ []) (named_type p t o) []

-- what is before the dot is a package; `spelled p (o + 1)` is its name
abbrev pub is_package_before : Rows → Table → ℕ → Bool
is_package_before p t o = nat_eq (parent p (o + 1)) o && is_package (t (o + 1))

abbrev pub is_array : ℕ → Bool
is_array (suc dims) = true
is_array zero = false

-- what is before the dot is an array
abbrev pub is_array_before : Rows → Types → ℕ → Bool
is_array_before p type_of o = nat_eq (parent p (o + 1)) o && option_map_or (λ a. is_array a.dims) (type_of (o + 1)) false

-- the members of what is before the dot
abbrev pub members_before : Rows → Table → Types → Space → Text → ℕ → List ℕ
members_before p t type_of k x o = flat_map (λ r. members_named p t k x r.0) (receivers p t type_of o)

-- a type of the package
abbrev pub is_named_type_of_package : Rows → List Text → Text → ℕ → Bool
is_named_type_of_package p path x d = is_type_of_package p path d && declares p space.Type x d

-- the member types of the type before the dot, or the types of the package before it
abbrev pub types_before : Rows → Table → Text → ℕ → List ℕ
types_before p t x o = option_map_or (λ c. members_named p t space.Type x c) (named_type p t o) []
    ++ (if is_package_before p t o then all_such (length p) (λ d. is_named_type_of_package p (spelled p (o + 1)) x d) else [])

-- a name behind a dot, by its kind; an ambiguous one is a field if there is one, else a type (JLS 6.5.2)
abbrev pub qualified_candidates : Rows → Table → Types → Text → ℕ → NameKind → List ℕ
qualified_candidates p t type_of x o kind.Variable = members_before p t type_of space.Variable x o
qualified_candidates p t type_of x o kind.Type = types_before p t x o
qualified_candidates p t type_of x o kind.PackageOrType = types_before p t x o
qualified_candidates p t type_of x o kind.Ambiguous = or_else (members_before p t type_of space.Variable x o) (types_before p t x o)
qualified_candidates p t type_of x o kind.Package = []

-- ---- super

-- the superclass of the innermost class, where that has an instance (JLS 15.11.2)
abbrev pub supers_before : Rows → Table → ℕ → List ℕ
supers_before p t o = option_map_or (λ c. if has_instance p o c then superclasses p t c else []) (innermost p o) []

-- ---- calls

abbrev pub arguments : Rows → Types → ℕ → Option (List RowType)
arguments p type_of o = argument_types p type_of o (length p) (arguments_by (label p o) p o)

-- what the types of the arguments give
abbrev pub with_arguments : Rows → Types → ℕ → (List RowType → Candidates) → Candidates
with_arguments p type_of o of = option_map_or of (arguments p type_of o) []

-- the type round the place has a member method of the name
abbrev pub is_method_level : Rows → Table → Text → ℕ → ℕ → Bool
is_method_level p t x o c = is_in_body p c o && any_below (length p) (λ d. is_member_named p t space.Method x c d)

-- the innermost such type (JLS 15.12.1)
abbrev pub method_level : Rows → Table → Text → ℕ → Option ℕ
method_level p t x o = last_below (length p) (λ c. is_method_level p t x o c)

-- the methods of the name that static imports of the unit bring
abbrev pub imported_methods : Rows → Table → Text → ℕ → List ℕ
imported_methods p t x o = all_such (length p) (λ d. is_imported p (is_static_import p t) o d && declares p space.Method x d)

-- a method without receiver, in the innermost type that has one of the name, else among the imported ones
abbrev pub methods_at : Rows → Table → Text → ℕ → List RowType → Option ℕ → Candidates
methods_at p t x o all (Some c) = at_level (Some c) (choice p t c o None all (members_named p t space.Method x c))
methods_at p t x o all None = at_level None (imported_choice p t o all (imported_methods p t x o))

-- the innermost enclosing class that has an inner class as member gives its objects their enclosing one (JLS 15.9.2)
abbrev pub enclosing_new : Rows → Table → ℕ → ℕ → Option ℕ
enclosing_new p t o c = last_below (length p) (λ e. is_in_body p e o && is_member p t e c)

abbrev pub new_level : Rows → Table → ℕ → ℕ → Option (Option ℕ)
new_level p t o c = if is_inner p c then option_map Some (enclosing_new p t o c) else Some None

-- the constructors of the class c
abbrev pub constructors_of : Rows → ℕ → List ℕ
constructors_of p c = all_such (length p) (λ k. is_constructor_of p c k)

-- the constructors of the class c that a creation with such arguments chooses
abbrev pub creations : Rows → Table → ℕ → List RowType → ℕ → Candidates
creations p t o all c = option_map_or (λ level. at_level level (choice p t c o None all (constructors_of p c))) (new_level p t o c) []

-- the class whose constructor this(..) or super(..) calls (JLS 8.8.7.1)
abbrev pub called_classes : Rows → Table → ℕ → ThisOrSuper → List ℕ
called_classes p t o which.This = option_map_or (λ c. c ∷ []) (innermost p o) []
called_classes p t o which.Super = option_map_or (λ c. superclasses p t c) (innermost p o) []

-- ---- candidates

-- what the occurrence o may refer to, where it seeks so, with this name; labels do not shadow one another (JLS 14.7)
abbrev pub candidates : Rows → Table → Types → ℕ → Text → Sought → Candidates
candidates p t type_of o x (sought.Simple k) = simple_candidates p t x o k
candidates p t type_of o x (sought.Qualified k) = at_level None (qualified_candidates p t type_of x o k)
candidates p t type_of o x sought.FieldOf = at_level None (members_before p t type_of space.Variable x o)
candidates p t type_of o x sought.SuperField = at_level None (flat_map (λ s. members_named p t space.Variable x s) (supers_before p t o))
candidates p t type_of o x sought.Method = with_arguments p type_of o (λ all. methods_at p t x o all (method_level p t x o))
candidates p t type_of o x sought.MethodOf =
    with_arguments p type_of o (λ all. at_level None (flat_map (λ r. choice p t r.0 o r.1 all (members_named p t space.Method x r.0)) (receivers p t type_of o)))
candidates p t type_of o x sought.SuperMethod =
    with_arguments p type_of o (λ all. at_level None (flat_map (λ s. choice p t s o None all (members_named p t space.Method x s)) (supers_before p t o)))
candidates p t type_of o x sought.Creation = with_arguments p type_of o (λ all. option_map_or (λ c. creations p t o all c) (named_type p t o) [])
candidates p t type_of o x (sought.ConstructorCall w) =
    with_arguments p type_of o (λ all. at_level None (flat_map (λ c. choice p t c o None all (constructors_of p c)) (called_classes p t o w)))
candidates p t type_of o x sought.OwnClass = at_level None (all_such (length p) (λ c. is_body_of p c (parent p o)))
candidates p t type_of o x sought.Label = at_level None (all_such (length p) (λ d. is_somewhere_in_scope p t space.Label x o d))
candidates p t type_of o x sought.Nothing = []

-- where there is none: a name that may be one of a package is that, `length` of an array is its length, and all else is not bound

abbrev pub may_be_package : NameKind → Bool
may_be_package kind.PackageOrType = true
may_be_package kind.Ambiguous = true
may_be_package _ = false

abbrev pub may_be_length : Sought → Bool
may_be_length (sought.Qualified kind.Variable) = true
may_be_length (sought.Qualified kind.Ambiguous) = true
may_be_length sought.FieldOf = true
may_be_length _ = false

abbrev pub is_package_name : Rows → Table → ℕ → Sought → Bool
is_package_name p t o (sought.Simple k) = may_be_package k
is_package_name p t o (sought.Qualified k) = may_be_package k && is_package_before p t o
is_package_name p t o _ = false

abbrev pub is_length : Rows → Types → ℕ → Text → Sought → Bool
is_length p type_of o x s = may_be_length s && is_array_before p type_of o && bytes_eq x (codes "length")

abbrev pub otherwise : Rows → Table → Types → ℕ → Text → Sought → Referent
otherwise p t type_of o x s = if is_package_name p t o s then Package else (if is_length p type_of o x s then ArrayLength else Unbound)

-- the answer at the place o, where it seeks so
abbrev pub look_for : Rows → Table → Types → ℕ → Text → Sought → Referent
look_for p t type_of o x s = answer_of (candidates p t type_of o x s) (otherwise p t type_of o x s)

-- what the occurrence o refers to, where all else is as the table says; where the row looks for nothing the answer is Unbound
abbrev pub look : Rows → Table → Types → ℕ → Referent
look p t type_of o = look_for p t type_of o (name p o) (sought_at p o)
