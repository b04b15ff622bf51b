-- The tests of imports tell what they are to tell.
use Rattle.std.proofs.Common.{◌≡◌, ◌⊎◌, refl, inl, inr, ⊎_elim, ℕ, ◌+◌, ◌<◌, ◌&&◌, length, Option, Decides}
use Rattle.std.proofs.lemmas.Bool.{false≢true}
use Rattle.std.proofs.lemmas.Bool.Decides.{Decides-eqb}
use Rattle.std.proofs.lemmas.Slice.Eq.{bytes_eq-Decides}
use Rattle.jr_tree.specs.declared.label.Label.{Label}
use Rattle.jr_tree.specs.declared.label.Label.TheVariants as is
use Rattle.jr_tree.specs.declared.label.ImportKind.{ImportKind}
use Rattle.jr_tree.specs.declared.label.ImportKind.TheVariants as importing
use Rattle.jr_tree.specs.Rows.{Rows, label, name, parent}
use Rattle.jr_defs.specs.declared.referent.Referent.{Referent}
use Rattle.jr_defs.specs.declared.referent.Referent.TheVariants.{Package, Declared}
use Rattle.jr_defs.specs.Referents.{Table}
use Rattle.jr_defs.specs.Declarations.{IsType}
use Rattle.jr_defs.specs.Enclosing.{DeclaredIn, InTopLevel}
use Rattle.jr_defs.specs.Packages.{spelled, TypeOfPackage}
use Rattle.jr_defs.specs.Members.{MemberOf}
use Rattle.jr_defs.specs.Imports.{java_lang, ImportOf, ImportNames, CanImport, SingleImport, ImportedBy, StaticImport, OnDemandOf, OnDemandImport, ImportsHold}
use Rattle.jr_plain.specs.Headed.{IsHeaded}
use Rattle.jr_plain.specs.Declarations.{is_type}
use Rattle.jr_plain.specs.Enclosing.{is_declared_in, is_in_top_level}
use Rattle.jr_plain.specs.Supertypes.{declaration}
use Rattle.jr_plain.specs.Members.{is_member}
use Rattle.jr_plain.specs.Imports as plain
use Rattle.jr_plain.proofs.Tests.{both, either, opposite, like}
use Rattle.jr_plain.proofs.Searches.{some, some_of}
use Rattle.jr_plain.proofs.Bounds.{bounded, type_below}
use Rattle.jr_plain.proofs.Declared.{type_tells}
use Rattle.jr_plain.proofs.Enclosed.{declared_in_tells, in_top_level_tells}
use Rattle.jr_plain.proofs.Modified.{public_tells, private_tells, static_tells}
use Rattle.jr_plain.proofs.Packaged.{in_unit_tells, same_package_tells, type_of_package_tells}
use Rattle.jr_plain.proofs.Supertyped.{declaration_lists}
use Rattle.jr_plain.proofs.Membership.{member_tells}

import_label_tells : (form : ImportKind) (l : Label) → Decides (plain.is_import_label form l) (l ≡ is.Import form)
import_label_tells importing.Single (is.Import importing.Single) = (λ h. refl, λ e. refl)
import_label_tells importing.OnDemand (is.Import importing.OnDemand) = (λ h. refl, λ e. refl)
import_label_tells importing.StaticSingle (is.Import importing.StaticSingle) = (λ h. refl, λ e. refl)
import_label_tells _ _ = (λ h. absurd (false≢true h), λ e. absurd (cc))

pub import_of_tells : (p : Rows) (u : ℕ) (form : ImportKind) (i : ℕ) → Decides (plain.is_import_of p u form i) (ImportOf p u form i)
import_of_tells p u form i = like (both (import_label_tells form (label p i)) (Decides-eqb (parent p i) u)) (λ h. record { import = h.0; inside = h.1 }) (λ h. (h.import, h.inside))

pub import_below : (p : Rows) (u : ℕ) (form : ImportKind) (i : ℕ) → ImportOf p u form i → i < length p
import_below p u form i h = bounded (λ l. l ≡ is.Import form) (λ e. cc) p i h.import

pub import_names_tells : (p : Rows) (t : Table) (i c : ℕ) → Decides (plain.import_names p t i c) (ImportNames p t i c)
import_names_tells p t i c = like (both (declaration_lists (t (i + 1)) c) (type_tells p c)) (λ h. record { level = h.0.0; refers = h.0.1; type = h.1 }) (λ h. ((h.level, h.refers), h.type))

pub can_import_tells : (p : Rows) (u d : ℕ) → Decides (plain.can_import p u d) (CanImport p u d)
can_import_tells p u d = like (both (opposite (private_tells p d)) (either (public_tells p d) (same_package_tells p u d))) (λ h. record { open_type = h.0; reach = h.1 }) (λ h. (h.open_type, h.reach))

pub single_import_tells : (p : Rows) (t : Table) (u d : ℕ) → Decides (plain.is_single_import p t u d) (SingleImport p t u d)
single_import_tells p t u d = like
    (both (some (λ i. plain.is_import_of p u importing.Single i && plain.import_names p t i d) (λ i. ImportOf p u importing.Single i × ImportNames p t i d)
    (λ i. both (import_of_tells p u importing.Single i) (import_names_tells p t i d)) (length p) (λ i h. import_below p u importing.Single i h.0)) (opposite (in_unit_tells p u d)))
    (λ h. record { import = h.0.0; is_import = h.0.1.0; names = h.0.1.1; foreign = h.1 }) (λ h. ((h.import, (h.is_import, h.names)), h.foreign))

package_tells : (a : Referent) → Decides (plain.is_package a) (a ≡ Package)
package_tells Package = (λ h. refl, λ e. refl)
package_tells _ = (λ h. absurd (false≢true h), λ e. absurd (cc))

pub refers_to_package_tells : (t : Table) (n : ℕ) → Decides (plain.is_package (t n)) (t n ≡ Package)
refers_to_package_tells t n = package_tells (t n)

pub imports_hold_tells : (p : Rows) (u o : ℕ) → Decides (plain.imports_hold p u o) (ImportsHold p u o)
imports_hold_tells p u o = like
    (both (in_unit_tells p u o) (some (λ k. is_in_top_level p k o) (λ k. InTopLevel p k o) (λ k. in_top_level_tells p k o) (length p) (λ k h. type_below p k h.top.type)))
    (λ h. record { unit = h.0; top = h.1.0; inside = h.1.1 }) (λ h. (h.unit, (h.top, h.inside)))

module _ (p : Rows) (t : Table) (headed : IsHeaded p) where
  -- d is a member of the type that the import names
  abbrev MemberOfImport : ℕ → ℕ → Type 0
  MemberOfImport i d = (c : ℕ) × ((level : Option ℕ) × (t (i + 1) ≡ Declared c level)) × (IsType p c × MemberOf p t c d)

  member_of_import_tells : (i d : ℕ) → Decides (plain.is_member_of_import p t i d) (MemberOfImport i d)
  member_of_import_tells i d = some_of (λ c. is_type p c && is_member p t c d) (λ c. IsType p c × MemberOf p t c d) (λ c. both (type_tells p c) (member_tells p t headed c d))
      (declaration (t (i + 1))) (declaration_lists (t (i + 1)))

  pub imported_by_tells : (u i d : ℕ) → Decides (plain.is_imported_by p t u i d) (ImportedBy p t u i d)
  imported_by_tells u i d = like
      (both (both (both (both (import_of_tells p u importing.StaticSingle i) (bytes_eq-Decides (name p d) (name p i))) (static_tells p d)) (can_import_tells p u d)) (member_of_import_tells i d))
      (λ h. record { is_import = h.0.0.0.0; of_type = h.1.0; names = record { level = h.1.1.0; refers = h.1.1.1; type = h.1.2.0 }; member = h.1.2.1; static = h.0.0.1; named = h.0.0.0.1; reached = h.0.1 })
      (λ h. ((((h.is_import, h.named), h.static), h.reached), (h.of_type, (h.names.level, h.names.refers), (h.names.type, h.member))))

  pub static_import_tells : (u d : ℕ) → Decides (plain.is_static_import p t u d) (StaticImport p t u d)
  static_import_tells u d = like
      (some (λ i. plain.is_imported_by p t u i d) (λ i. ImportedBy p t u i d) (λ i. imported_by_tells u i d) (length p) (λ i h. import_below p u importing.StaticSingle i h.is_import))
      (λ h. record { import = h.0; imports = h.1 }) (λ h. (h.import, h.imports))

  -- d is declared in the type that the import names
  abbrev DeclaredInImport : ℕ → ℕ → Type 0
  DeclaredInImport i d = (c : ℕ) × ((level : Option ℕ) × (t (i + 1) ≡ Declared c level)) × (IsType p c × DeclaredIn p c d)

  declared_in_import_tells : (i d : ℕ) → Decides (plain.is_declared_in_import p t i d) (DeclaredInImport i d)
  declared_in_import_tells i d = some_of (λ c. is_type p c && is_declared_in p c d) (λ c. IsType p c × DeclaredIn p c d) (λ c. both (type_tells p c) (declared_in_tells p c d))
      (declaration (t (i + 1))) (declaration_lists (t (i + 1)))

  abbrev DemandedBy : ℕ → ℕ → ℕ → Type 0
  DemandedBy u i d = ImportOf p u importing.OnDemand i × (((t (i + 1) ≡ Package) × TypeOfPackage p (spelled p (i + 1)) d) ⊎ (IsType p d × DeclaredInImport i d))

  demanded_by_tells : (u i d : ℕ) → Decides (plain.is_demanded_by p t u i d) (DemandedBy u i d)
  demanded_by_tells u i d = both (import_of_tells p u importing.OnDemand i)
      (either (both (refers_to_package_tells t (i + 1)) (type_of_package_tells p (spelled p (i + 1)) d)) (both (type_tells p d) (declared_in_import_tells i d)))

  pub on_demand_of_tells : (u d : ℕ) → Decides (plain.is_on_demand_of p t u d) (OnDemandOf p t u d)
  on_demand_of_tells u d = like
      (either (some (λ i. plain.is_demanded_by p t u i d) (λ i. DemandedBy u i d) (λ i. demanded_by_tells u i d) (length p) (λ i h. import_below p u importing.OnDemand i h.0))
      (type_of_package_tells p java_lang d)) out into
    where
      out : ((i : ℕ) × DemandedBy u i d) ⊎ TypeOfPackage p java_lang d → OnDemandOf p t u d
      out (inl h) = ⊎_elim (λ k. OnDemandOf.of_package h.1.0 k.0 k.1)
          (λ k. OnDemandOf.of_type h.1.0 (record { level = k.1.1.0; refers = k.1.1.1; type = k.1.2.0 }) k.1.2.1 k.0) h.1.1
      out (inr h) = OnDemandOf.lang h

      into : {d : ℕ} → OnDemandOf p t u d → ((i : ℕ) × DemandedBy u i d) ⊎ TypeOfPackage p java_lang d
      into (OnDemandOf.of_package {i = i} a e k) = inl (i, (a, inl (e, k)))
      into (OnDemandOf.of_type {i = i} {c = c} a names m k) = inl (i, (a, inr (k, (c, (names.level, names.refers), (names.type, m)))))
      into (OnDemandOf.lang h) = inr h

  pub on_demand_import_tells : (u d : ℕ) → Decides (plain.is_on_demand_import p t u d) (OnDemandImport p t u d)
  on_demand_import_tells u d = like (both (on_demand_of_tells u d) (can_import_tells p u d)) (λ h. record { brings = h.0; reached = h.1 }) (λ h. (h.brings, h.reached))
