-- Rules 2 to 7, computed: what is declared twice (JLS 7.1, 7.6, 8.1, 8.3, 8.4.1, 8.4.2, 8.5, 8.8.2, 14.4.2, 14.7, 14.20).
use Rattle.std.specs.Prelude.{ℕ, zero, suc, Bool, true, false, not, ◌&&◌, ◌||◌, List, [], ◌∷◌, ◌++◌, length, nat_lt, bytes_eq}
use Rattle.jr_base.specs.declared.text.Text.{Text}
use Rattle.jr_tree.specs.declared.label.Role.{Role}
use Rattle.jr_tree.specs.declared.label.Role.TheVariants as role
use Rattle.jr_tree.specs.Rows.{Rows, label, name, role_at}
use Rattle.jr_defs.specs.Referents.{Table}
use Rattle.jr_defs.specs.Packages.{package_of}
use Rattle.jr_plain.specs.Search.{any_below}
use Rattle.jr_plain.specs.Same.{same_role, same_path}
use Rattle.jr_plain.specs.Declarations.{is_type}
use Rattle.jr_plain.specs.Enclosing.{is_unit, is_declared_in, declaring_type, is_constructor_of, constructed_class, is_top_level}
use Rattle.jr_plain.specs.Packages.{is_in_unit, is_same_package}
use Rattle.jr_plain.specs.Types.{parameters, are_same_types, is_same_signature}
use Rattle.jr_plain.specs.Scope.{is_in_local_scope, is_in_parameter_scope, is_in_label_scope, is_in_one_list}
use Rattle.jr_name_rules.specs.Found.{found, is_same_name}

-- ---- members

-- d has this role, and stands before e in the body that declares both
abbrev pub is_before_in_body : Rows → Role → ℕ → ℕ → Bool
is_before_in_body p kind d e = let beside = found (declaring_type p d) (λ c. is_declared_in p c e) in same_role (role_at p d) kind && nat_lt d e && beside

-- a body declares e and, before it, another member of the same role that passes the test with it
abbrev pub is_second : Rows → Role → (ℕ → ℕ → Bool) → ℕ → Bool
is_second p kind test e =
    let some = any_below (length p) (λ d. let passes = test d e in is_before_in_body p kind d e && passes) in same_role (role_at p e) kind && some

-- rule 2: a body declares two types of one name
abbrev pub is_second_type : Rows → ℕ → Bool
is_second_type p e = is_second p role.Type (is_same_name p) e

-- rule 3: a body declares two fields of one name
abbrev pub is_second_field : Rows → ℕ → Bool
is_second_field p e = is_second p role.Field (is_same_name p) e

-- rule 4: a body declares two methods of one signature
abbrev pub is_second_method : Rows → Table → ℕ → Bool
is_second_method p t e = is_second p role.Method (is_same_signature p t) e

-- rule 5: a class has two constructors with the same types of parameters
abbrev pub is_second_constructor : Rows → Table → ℕ → Bool
is_second_constructor p t e = let some = any_below (length p) (λ d. let same = are_same_types (parameters p t d) (parameters p t e) in
    found (constructed_class p d) (λ c. is_constructor_of p c e) && nat_lt d e && same) in same_role (role_at p e) role.Constructor && some

-- ---- names of types

-- rule 2: a package has two types of one name
abbrev pub is_second_top_type : Rows → ℕ → Bool
is_second_top_type p e =
    let some = any_below (length p) (λ d. let same = is_same_name p d e && is_same_package p d e in is_top_level p d && nat_lt d e && same) in is_top_level p e && some

abbrev pub is_unnamed : List Text → Bool
is_unnamed [] = true
is_unnamed (part ∷ more) = false

-- the package of the unit u has a subpackage of this name (JLS 7.1)
abbrev pub has_subpackage : Rows → ℕ → Text → Bool
has_subpackage p u x = let some = any_below (length p) (λ v. let at = same_path (package_of p v) (package_of p u ++ x ∷ []) in is_unit (label p v) && at) in
    not (is_unnamed (package_of p u)) && some

-- rule 2: a subpackage has the name of the type
abbrev pub is_named_as_package : Rows → ℕ → Bool
is_named_as_package p d = let some = any_below (length p) (λ u. let sub = has_subpackage p u (name p d) in is_in_unit p u d && sub) in is_top_level p d && some

-- one of so many types round d has the name
abbrev pub is_inside : Rows → Text → ℕ → ℕ → Bool
is_inside p x zero d = false
is_inside p x (suc rounds) d = found (declaring_type p d) (λ c. let further = is_inside p x rounds c in bytes_eq (name p c) x || further)

-- rule 2: the type stands in one of its own name
abbrev pub is_inside_its_name : Rows → ℕ → Bool
is_inside_its_name p d = let inside = is_inside p (name p d) (length p) d in is_type p d && inside

-- rule 2, in one of its four ways
abbrev pub has_type_clash : Rows → ℕ → Bool
has_type_clash p d = is_second_type p d || (is_second_top_type p d || (is_named_as_package p d || is_inside_its_name p d))

-- ---- locals, parameters and labels

abbrev pub is_local_or_parameter : Role → Bool
is_local_or_parameter role.Local = true
is_local_or_parameter role.Parameter = true
is_local_or_parameter _ = false

-- e stands in the scope of the local or parameter d, or behind it in one list of parameters
abbrev pub is_in_scope_of : Rows → ℕ → ℕ → Bool
is_in_scope_of p d e = is_in_local_scope p d e || (is_in_parameter_scope p d e || (is_in_one_list p d e && nat_lt d e))

-- rule 6: a local or parameter has the name of one that is in scope
abbrev pub is_second_local : Rows → ℕ → Bool
is_second_local p e = let some = any_below (length p) (λ d. let inside = is_in_scope_of p d e in is_same_name p d e && inside) in is_local_or_parameter (role_at p e) && some

-- rule 7: a label stands in a statement with a label of the same name
abbrev pub is_second_label : Rows → ℕ → Bool
is_second_label p e = let some = any_below (length p) (λ d. let named = is_same_name p d e in is_in_label_scope p d e && named) in same_role (role_at p e) role.Label && some
