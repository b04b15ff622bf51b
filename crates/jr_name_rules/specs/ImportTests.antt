-- Rules 8, 9 and 47, computed: what imports name (JLS 6.7, 7.5.1, 7.5.3).
use Rattle.std.specs.Prelude.{ℕ, zero, suc, ◌+◌, Bool, true, false, not, ◌&&◌, ◌||◌, if◌then◌else◌, List, [], ◌∷◌, ◌++◌, length, flat_map, nat_eq, nat_lt}
use Rattle.std.specs.Option.{option_map_or}
use Rattle.jr_base.specs.declared.text.Text.{Text}
use Rattle.jr_tree.specs.declared.label.Label.{Label}
use Rattle.jr_tree.specs.declared.label.Label.TheVariants as is
use Rattle.jr_tree.specs.declared.label.ImportKind.TheVariants as importing
use Rattle.jr_tree.specs.Rows.{Rows, label, name, parent}
use Rattle.jr_defs.specs.Referents.{Table}
use Rattle.jr_defs.specs.Packages.{package_of, spelled}
use Rattle.jr_plain.specs.Search.{any_below, gathered, among}
use Rattle.jr_plain.specs.Same.{same_path}
use Rattle.jr_plain.specs.Declarations.{is_type}
use Rattle.jr_plain.specs.Enclosing.{declaring_type, is_top_level}
use Rattle.jr_plain.specs.Packages.{is_in_unit}
use Rattle.jr_plain.specs.Imports.{is_import_of, import_names, is_imported_by}
use Rattle.jr_name_rules.specs.Found.{found, both_found, is_same_name, imported_type}
use Rattle.jr_name_rules.specs.DeclarationTests.{is_unnamed}

-- two types of one name
abbrev pub is_clash : Rows → ℕ → ℕ → Bool
is_clash p d e = is_same_name p d e && not (nat_eq d e)

-- a type that the unit itself declares outside any other
abbrev pub is_declared_top : Rows → ℕ → ℕ → Bool
is_declared_top p u e = is_top_level p e && nat_eq (parent p e) u

-- ---- imports of single types

-- rule 8: an import before j names another type of the same name
abbrev pub is_second_import : Rows → Table → ℕ → Bool
is_second_import p t j = let some = any_below (length p) (λ i. let clash = both_found (imported_type p t i) (imported_type p t j) (is_clash p) in
    is_import_of p (parent p j) importing.Single i && nat_lt i j && clash) in is_import_of p (parent p j) importing.Single j && some

-- rule 8: the unit declares another type of the name that is imported
abbrev pub is_import_beside_type : Rows → Table → ℕ → Bool
is_import_beside_type p t i = let some = any_below (length p) (λ e. let clash = found (imported_type p t i) (λ d. is_clash p d e) in is_declared_top p (parent p i) e && clash) in
    is_import_of p (parent p i) importing.Single i && some

-- rule 8, in one of its two ways
abbrev pub has_import_clash : Rows → Table → ℕ → Bool
has_import_clash p t i = is_second_import p t i || is_import_beside_type p t i

-- ---- canonical names

-- the name with one more part
abbrev pub with_part : Text → List Text → List Text
with_part x path = path ++ x ∷ []

-- the names that a type outside any other has by the packages of its unit; in the unnamed package it has none
abbrev pub top_names : Rows → ℕ → List (List Text)
top_names p d = if is_top_level p d then gathered (length p) (λ u. if is_in_unit p u d && not (is_unnamed (package_of p u)) then with_part (name p d) (package_of p u) ∷ [] else []) else []

-- the canonical names of d, where so many types stand round it
abbrev pub canonical_names : Rows → ℕ → ℕ → List (List Text)
canonical_names p zero d = []
canonical_names p (suc rounds) d =
    top_names p d ++ (if is_type p d then option_map_or (λ c. flat_map (λ path. with_part (name p d) path ∷ []) (canonical_names p rounds c)) (declaring_type p d) [] else [])

-- the canonical name of a type (JLS 6.7)
abbrev pub is_canonical_name : Rows → ℕ → List Text → Bool
is_canonical_name p d path = among same_path (canonical_names p (length p) d) path

abbrev pub is_import : Label → Bool
is_import (is.Import form) = true
is_import _ = false

-- rule 9: an import names a type by a name that is not canonical
abbrev pub is_import_not_canonical : Rows → Table → ℕ → Bool
is_import_not_canonical p t i = let other = found (imported_type p t i) (λ d. not (is_canonical_name p d (spelled p (i + 1)))) in is_import (label p i) && other

-- ---- static imports

-- rule 47: a single static import brings nothing
abbrev pub is_import_of_nothing : Rows → Table → ℕ → Bool
is_import_of_nothing p t i = let some = any_below (length p) (λ d. is_imported_by p t (parent p i) i d) in is_import_of p (parent p i) importing.StaticSingle i && not some

-- a type that an import brings by its simple name, static or not
abbrev pub is_type_brought : Rows → Table → ℕ → ℕ → ℕ → Bool
is_type_brought p t u j e = (is_import_of p u importing.Single j && import_names p t j e) || (is_imported_by p t u j e && is_type p e)

-- a type that another import than i brings, or that the unit itself declares
abbrev pub is_other_type : Rows → Table → ℕ → ℕ → ℕ → Bool
is_other_type p t u i e = any_below (length p) (λ j. not (nat_eq i j) && is_type_brought p t u j e) || is_declared_top p u e

-- rule 47: a static import brings a type, and another import or the unit itself has another type of the name
abbrev pub has_static_clash : Rows → Table → ℕ → Bool
has_static_clash p t i = let some = any_below (length p) (λ d. let clash = any_below (length p) (λ e. let other = is_other_type p t (parent p i) i e in is_clash p d e && other) in
    is_type p d && is_imported_by p t (parent p i) i d && clash) in is_import_of p (parent p i) importing.StaticSingle i && some

-- rule 47, in one of its ways
abbrev pub has_static_import_fault : Rows → Table → ℕ → Bool
has_static_import_fault p t i = is_import_of_nothing p t i || has_static_clash p t i
