-- What imports bring into scope, as tests (JLS 7.5).
use Rattle.std.specs.Prelude.{ℕ, ◌+◌, Bool, true, false, not, ◌&&◌, ◌||◌, length, nat_eq, bytes_eq}
use Rattle.std.specs.List.{list_any}
use Rattle.jr_tree.specs.declared.label.Label.{Label}
use Rattle.jr_tree.specs.declared.label.Label.TheVariants as is
use Rattle.jr_tree.specs.declared.label.ImportKind.{ImportKind}
use Rattle.jr_tree.specs.declared.label.ImportKind.TheVariants as importing
use Rattle.jr_tree.specs.Rows.{Rows, label, name, parent}
use Rattle.jr_defs.specs.declared.referent.Referent.{Referent}
use Rattle.jr_defs.specs.declared.referent.Referent.TheVariants.{Package}
use Rattle.jr_defs.specs.Referents.{Table}
use Rattle.jr_defs.specs.Packages.{spelled}
use Rattle.jr_defs.specs.Imports.{java_lang}
use Rattle.jr_plain.specs.Search.{any_below, has}
use Rattle.jr_plain.specs.Declarations.{is_type}
use Rattle.jr_plain.specs.Enclosing.{is_declared_in, is_in_top_level}
use Rattle.jr_plain.specs.Modifiers.{is_public, is_private, is_static}
use Rattle.jr_plain.specs.Packages.{is_in_unit, is_same_package, is_type_of_package}
use Rattle.jr_plain.specs.Supertypes.{declaration}
use Rattle.jr_plain.specs.Members.{is_member}

-- the label of an import of this form
abbrev pub is_import_label : ImportKind → Label → Bool
is_import_label importing.Single (is.Import importing.Single) = true
is_import_label importing.OnDemand (is.Import importing.OnDemand) = true
is_import_label importing.StaticSingle (is.Import importing.StaticSingle) = true
is_import_label _ _ = false

-- the row i is an import of this form in the unit u
abbrev pub is_import_of : Rows → ℕ → ImportKind → ℕ → Bool
is_import_of p u form i = is_import_label form (label p i) && nat_eq (parent p i) u

-- the import names the type c
abbrev pub import_names : Rows → Table → ℕ → ℕ → Bool
import_names p t i c = has (declaration (t (i + 1))) c && is_type p c

-- d is a member of the type that the import names
abbrev pub is_member_of_import : Rows → Table → ℕ → ℕ → Bool
is_member_of_import p t i d = list_any (λ c. is_type p c && is_member p t c d) (declaration (t (i + 1)))

-- what a unit may import without naming it alone: what is public, or not private and of its own package (JLS 7.5.2, 7.5.3)
abbrev pub can_import : Rows → ℕ → ℕ → Bool
can_import p u d = not (is_private p d) && (is_public p d || is_same_package p u d)

-- a single-type import brings its type; one of a type that the unit itself declares is ignored (JLS 7.5.1)
abbrev pub is_single_import : Rows → Table → ℕ → ℕ → Bool
is_single_import p t u d = any_below (length p) (λ i. is_import_of p u importing.Single i && import_names p t i d) && not (is_in_unit p u d)

-- a single static import brings the static members of its type that have its name, declared or inherited (JLS 7.5.3)
abbrev pub is_imported_by : Rows → Table → ℕ → ℕ → ℕ → Bool
is_imported_by p t u i d =
    is_import_of p u importing.StaticSingle i && bytes_eq (name p d) (name p i) && is_static p d && can_import p u d && is_member_of_import p t i d

abbrev pub is_static_import : Rows → Table → ℕ → ℕ → Bool
is_static_import p t u d = any_below (length p) (λ i. is_imported_by p t u i d)

abbrev pub is_package : Referent → Bool
is_package Package = true
is_package _ = false

-- d is declared in the type that the import names
abbrev pub is_declared_in_import : Rows → Table → ℕ → ℕ → Bool
is_declared_in_import p t i d = list_any (λ c. is_type p c && is_declared_in p c d) (declaration (t (i + 1)))

-- an import on demand of a package that has the type d, or of a type in which it is declared
abbrev pub is_demanded_by : Rows → Table → ℕ → ℕ → ℕ → Bool
is_demanded_by p t u i d = is_import_of p u importing.OnDemand i
    && ((is_package (t (i + 1)) && is_type_of_package p (spelled p (i + 1)) d) || (is_type p d && is_declared_in_import p t i d))

-- each unit imports java.lang on demand (JLS 7.5.2, 7.5.5)
abbrev pub is_on_demand_of : Rows → Table → ℕ → ℕ → Bool
is_on_demand_of p t u d = any_below (length p) (λ i. is_demanded_by p t u i d) || is_type_of_package p java_lang d

abbrev pub is_on_demand_import : Rows → Table → ℕ → ℕ → Bool
is_on_demand_import p t u d = is_on_demand_of p t u d && can_import p u d

-- imports hold in all types of their unit, and not in the imports themselves (JLS 6.3)
abbrev pub imports_hold : Rows → ℕ → ℕ → Bool
imports_hold p u o = is_in_unit p u o && any_below (length p) (λ k. is_in_top_level p k o)
