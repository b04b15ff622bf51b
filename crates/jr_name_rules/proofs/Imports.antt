-- The tests of what imports name tell what they are to tell.
use Rattle.std.proofs.Common.{◌≡◌, ◌⊎◌, refl, sym, ◌∙◌, ap, subst, inl, inr, ⊎_elim, arith, ℕ, zero, suc, ◌+◌, ◌<◌, ◌&&◌, not, if◌then◌else◌, List, [], ◌∷◌, ◌++◌, length, flat_map, Decides}
use Rattle.std.proofs.lemmas.Bool.{false≢true}
use Rattle.std.proofs.lemmas.Bool.Decides.{Decides-ltb, Decides-eqb}
use Rattle.jr_base.specs.declared.text.Text.{Text}
use Rattle.jr_tree.specs.declared.label.Label.{Label}
use Rattle.jr_tree.specs.declared.label.Label.TheVariants as is
use Rattle.jr_tree.specs.declared.label.ImportKind.{ImportKind}
use Rattle.jr_tree.specs.declared.label.ImportKind.TheVariants as importing
use Rattle.jr_tree.specs.Rows.{Rows, label, name, parent}
use Rattle.jr_tree.specs.Tree.{IsTree}
use Rattle.jr_defs.specs.Referents.{Table}
use Rattle.jr_defs.specs.Declarations.{IsType}
use Rattle.jr_defs.specs.Enclosing.{DeclaredIn, IsTopLevel}
use Rattle.jr_defs.specs.Packages.{InUnit, package_of, spelled}
use Rattle.jr_defs.specs.Imports.{ImportOf, ImportNames, ImportedBy}
use Rattle.jr_defs.specs.Rules.{CanonicalName, BringsType, DeclaresTop}
use Rattle.jr_plain.specs.Headed.{IsHeaded}
use Rattle.jr_plain.specs.Lists.{Has}
use Rattle.jr_plain.specs.Same.{same_path}
use Rattle.jr_plain.specs.Declarations.{is_type}
use Rattle.jr_plain.specs.Enclosing.{declaring_type, is_top_level}
use Rattle.jr_plain.specs.Packages.{is_in_unit}
use Rattle.jr_plain.proofs.Tests.{both, either, opposite, like}
use Rattle.jr_plain.proofs.Searches.{some}
use Rattle.jr_plain.proofs.Same.{path_tells}
use Rattle.jr_plain.proofs.Listed.{append_has, one_has, found_has, if_has, gathered_has, flat_has}
use Rattle.jr_plain.proofs.Bounds.{type_below, unit_below}
use Rattle.jr_plain.proofs.Declared.{type_tells}
use Rattle.jr_plain.proofs.Enclosed.{declaring_finds, top_level_tells}
use Rattle.jr_plain.proofs.Modified.{found_tells}
use Rattle.jr_plain.proofs.Packaged.{in_unit_tells}
use Rattle.jr_plain.proofs.Membership.{member_below}
use Rattle.jr_plain.proofs.Imported.{import_of_tells, import_below, import_names_tells, imported_by_tells}
use Rattle.jr_name_rules.specs.Found.{imported_type}
use Rattle.jr_name_rules.specs.DeclarationTests.{is_unnamed}
use Rattle.jr_name_rules.specs.ImportTests as plain
use Rattle.jr_name_rules.proofs.Found.{both_found_tells, same_name_tells, imported_finds}
use Rattle.jr_name_rules.proofs.Declarations.{unnamed_tells, declared_after}

abbrev Clash : Rows → ℕ → ℕ → Type 0
Clash p d e = (name p d ≡ name p e) × (d ≡ e → ⊥)

clash_tells : (p : Rows) (d e : ℕ) → Decides (plain.is_clash p d e) (Clash p d e)
clash_tells p d e = both (same_name_tells p d e) (opposite (Decides-eqb d e))

declared_top_tells : (p : Rows) (u e : ℕ) → Decides (plain.is_declared_top p u e) (DeclaresTop p u e)
declared_top_tells p u e = like (both (top_level_tells p e) (Decides-eqb (parent p e) u)) (λ h. record { top = h.0; inside = h.1 }) (λ h. (h.top, h.inside))

-- ---- imports of single types

abbrev pub SecondImport : Rows → Table → ℕ → Type 0
SecondImport p t j = ImportOf p (parent p j) importing.Single j × ((i : ℕ) × ((ImportOf p (parent p j) importing.Single i × (i < j))
    × ((d : ℕ) × ImportNames p t i d × ((e : ℕ) × ImportNames p t j e × Clash p d e))))

second_import_tells : (p : Rows) (t : Table) (j : ℕ) → Decides (plain.is_second_import p t j) (SecondImport p t j)
second_import_tells p t j = both (import_of_tells p (parent p j) importing.Single j)
    (some _ (λ i. (ImportOf p (parent p j) importing.Single i × (i < j)) × ((d : ℕ) × ImportNames p t i d × ((e : ℕ) × ImportNames p t j e × Clash p d e)))
    (λ i. both (both (import_of_tells p (parent p j) importing.Single i) (Decides-ltb i j))
    (both_found_tells (ImportNames p t i) (ImportNames p t j) (plain.is_clash p) (Clash p) (clash_tells p) (imported_type p t i) (imported_type p t j) (imported_finds p t i) (imported_finds p t j)))
    (length p) (λ i h. import_below p (parent p j) importing.Single i h.0.0))

abbrev pub ImportBesideType : Rows → Table → ℕ → Type 0
ImportBesideType p t i = ImportOf p (parent p i) importing.Single i × ((e : ℕ) × (DeclaresTop p (parent p i) e × ((d : ℕ) × ImportNames p t i d × Clash p d e)))

import_beside_type_tells : (p : Rows) (t : Table) (i : ℕ) → Decides (plain.is_import_beside_type p t i) (ImportBesideType p t i)
import_beside_type_tells p t i = both (import_of_tells p (parent p i) importing.Single i)
    (some _ (λ e. DeclaresTop p (parent p i) e × ((d : ℕ) × ImportNames p t i d × Clash p d e))
    (λ e. both (declared_top_tells p (parent p i) e)
    (found_tells (ImportNames p t i) (λ d. plain.is_clash p d e) (λ d. Clash p d e) (λ d. clash_tells p d e) (imported_type p t i) (imported_finds p t i)))
    (length p) (λ e h. type_below p e h.0.top.type))

abbrev pub ImportClash : Rows → Table → ℕ → Type 0
ImportClash p t i = SecondImport p t i ⊎ ImportBesideType p t i

pub import_clash_tells : (p : Rows) (t : Table) (i : ℕ) → Decides (plain.has_import_clash p t i) (ImportClash p t i)
import_clash_tells p t i = either (second_import_tells p t i) (import_beside_type_tells p t i)

-- ---- canonical names

module _ (p : Rows) where
  abbrev OfUnit : ℕ → ℕ → List Text → Type 0
  OfUnit d u path = (InUnit p u d × (package_of p u ≡ [] → ⊥)) × (package_of p u ++ name p d ∷ [] ≡ path)

  abbrev TopName : ℕ → List Text → Type 0
  TopName d path = IsTopLevel p d × ((u : ℕ) × OfUnit d u path)

  top_names_has : (d : ℕ) → Has same_path (plain.top_names p d) (TopName d)
  top_names_has d = if_has same_path path_tells (is_top_level p d) (top_level_tells p d) _
      (gathered_has same_path path_tells (OfUnit d) (λ u. if is_in_unit p u d && not (is_unnamed (package_of p u)) then plain.with_part (name p d) (package_of p u) ∷ [] else [])
      (λ u. if_has same_path path_tells (is_in_unit p u d && not (is_unnamed (package_of p u))) (both (in_unit_tells p u d) (opposite (unnamed_tells (package_of p u)))) _
      (one_has same_path path_tells (package_of p u ++ name p d ∷ []))) (length p) (λ u path h. unit_below p u h.0.0.unit))

  -- the canonical names of d, where so many types stand round it
  abbrev CanonicalWithin : ℕ → ℕ → List Text → Type 0
  CanonicalWithin zero d path = ⊥
  CanonicalWithin (suc rounds) d path = TopName d path ⊎ (IsType p d × ((c : ℕ) × DeclaredIn p c d × ((around : List Text) × CanonicalWithin rounds c around × (around ++ name p d ∷ [] ≡ path))))

  canonical_has : (rounds d : ℕ) → Has same_path (plain.canonical_names p rounds d) (CanonicalWithin rounds d)
  canonical_has zero d = λ path. (λ h. absurd (false≢true h), λ h. absurd h)
  canonical_has (suc rounds) d = append_has same_path path_tells (plain.top_names p d) _ (top_names_has d)
      (if_has same_path path_tells (is_type p d) (type_tells p d) _
      (found_has same_path path_tells (λ c. DeclaredIn p c d) (λ c path. (around : List Text) × CanonicalWithin rounds c around × (around ++ name p d ∷ [] ≡ path))
      (λ c. flat_map (λ path. plain.with_part (name p d) path ∷ []) (plain.canonical_names p rounds c))
      (λ c. flat_has same_path path_tells same_path path_tells (λ path. plain.with_part (name p d) path ∷ []) (CanonicalWithin rounds c) (λ around path. around ++ name p d ∷ [] ≡ path)
      (λ around. one_has same_path path_tells (around ++ name p d ∷ [])) (plain.canonical_names p rounds c) (canonical_has rounds c))
      (declaring_type p d) (declaring_finds p d)))

  canonical_out : (rounds d : ℕ) (path : List Text) → CanonicalWithin rounds d path → CanonicalName p d path
  canonical_out zero d path h = absurd h
  canonical_out (suc rounds) d path (inl h) = subst (λ q. CanonicalName p d q) h.1.1.1
      (CanonicalName.top (record { top = h.0; inside = record { unit = h.1.0; holds = h.1.1.0.0; has_path = refl } }) h.1.1.0.1)
  canonical_out (suc rounds) d path (inr h) = subst (λ q. CanonicalName p d q) h.1.2.2 (CanonicalName.member h.1.1 h.0 (canonical_out rounds h.1.0 h.1.2.0 h.1.2.1))

  canonical_into : IsTree p → (rounds d : ℕ) (path : List Text) → d < rounds → CanonicalName p d path → CanonicalWithin rounds d path
  canonical_into tree zero d path lt h = absurd (omega arith)
  canonical_into tree (suc rounds) d _ lt (CanonicalName.top h named) = inl (
    h.top,
    (
      h.inside.unit,
      (
        (h.inside.holds, λ e. named (sym h.inside.has_path ∙ e)),
        ap (λ q. q ++ name p d ∷ []) h.inside.has_path,
      ),
    ),
  )
  canonical_into tree (suc rounds) d _ lt (CanonicalName.member {c = c} {path = path} k type h) = let after = declared_after p tree c d k in
      inr (type, (c, k, (path, canonical_into tree rounds c path (omega arith) h, refl)))

import_label_tells : (l : Label) → Decides (plain.is_import l) ((form : ImportKind) × (l ≡ is.Import form))
import_label_tells (is.Import form) = (λ h. (form, refl), λ h. refl)
import_label_tells _ = (λ h. absurd (false≢true h), λ h. let e = h.1 in absurd (cc))

abbrev pub ImportNotCanonical : Rows → Table → ℕ → Type 0
ImportNotCanonical p t i = ((form : ImportKind) × (label p i ≡ is.Import form)) × ((d : ℕ) × ImportNames p t i d × (CanonicalName p d (spelled p (i + 1)) → ⊥))

pub import_not_canonical_tells : (p : Rows) (t : Table) → IsTree p → (i : ℕ) → Decides (plain.is_import_not_canonical p t i) (ImportNotCanonical p t i)
import_not_canonical_tells p t tree i = like
    (both (import_label_tells (label p i))
    (found_tells (ImportNames p t i) (λ d. not (plain.is_canonical_name p d (spelled p (i + 1)))) (λ d. CanonicalWithin p (length p) d (spelled p (i + 1)) → ⊥)
    (λ d. opposite (canonical_has p (length p) d (spelled p (i + 1)))) (imported_type p t i) (imported_finds p t i)))
    (λ h. (h.0, (h.1.0, h.1.1, λ k. h.1.2 (canonical_into p tree (length p) h.1.0 (spelled p (i + 1)) (type_below p h.1.0 h.1.1.type) k))))
    (λ h. (h.0, (h.1.0, h.1.1, λ k. h.1.2 (canonical_out p (length p) h.1.0 (spelled p (i + 1)) k))))

-- ---- static imports

abbrev pub ImportOfNothing : Rows → Table → ℕ → Type 0
ImportOfNothing p t i = ImportOf p (parent p i) importing.StaticSingle i × (((d : ℕ) × ImportedBy p t (parent p i) i d) → ⊥)

abbrev OtherType : Rows → Table → ℕ → ℕ → ℕ → Type 0
OtherType p t u i e = ((j : ℕ) × ((i ≡ j → ⊥) × BringsType p t u j e)) ⊎ DeclaresTop p u e

abbrev pub StaticClash : Rows → Table → ℕ → Type 0
StaticClash p t i = ImportOf p (parent p i) importing.StaticSingle i
    × ((d : ℕ) × ((IsType p d × ImportedBy p t (parent p i) i d) × ((e : ℕ) × (Clash p d e × OtherType p t (parent p i) i e))))

abbrev pub StaticImportFault : Rows → Table → ℕ → Type 0
StaticImportFault p t i = ImportOfNothing p t i ⊎ StaticClash p t i

module _ (p : Rows) (t : Table) (headed : IsHeaded p) where
  imported_below : (u i d : ℕ) → ImportedBy p t u i d → d < length p
  imported_below u i d h = member_below p t headed h.of_type d h.member

  import_of_nothing_tells : (i : ℕ) → Decides (plain.is_import_of_nothing p t i) (ImportOfNothing p t i)
  import_of_nothing_tells i = both (import_of_tells p (parent p i) importing.StaticSingle i)
      (opposite (some _ (λ d. ImportedBy p t (parent p i) i d) (λ d. imported_by_tells p t headed (parent p i) i d) (length p) (λ d h. imported_below (parent p i) i d h)))

  brought_into : {u j e : ℕ} → BringsType p t u j e → (ImportOf p u importing.Single j × ImportNames p t j e) ⊎ (ImportedBy p t u j e × IsType p e)
  brought_into (BringsType.single h) = inl (h.is_import, h.names)
  brought_into (BringsType.static h type) = inr (h, type)

  brought_tells : (u j e : ℕ) → Decides (plain.is_type_brought p t u j e) (BringsType p t u j e)
  brought_tells u j e = like
      (either (both (import_of_tells p u importing.Single j) (import_names_tells p t j e)) (both (imported_by_tells p t headed u j e) (type_tells p e)))
      (⊎_elim (λ h. BringsType.single (record { is_import = h.0; names = h.1 })) (λ h. BringsType.static h.0 h.1)) brought_into

  import_row : {u j e : ℕ} → BringsType p t u j e → j < length p
  import_row {u} {j} (BringsType.single h) = import_below p u importing.Single j h.is_import
  import_row {u} {j} (BringsType.static h type) = import_below p u importing.StaticSingle j h.is_import

  brought_below : {u j e : ℕ} → BringsType p t u j e → e < length p
  brought_below {e = e} (BringsType.single h) = type_below p e h.names.type
  brought_below {e = e} (BringsType.static h type) = type_below p e type

  other_type_tells : (u i e : ℕ) → Decides (plain.is_other_type p t u i e) (OtherType p t u i e)
  other_type_tells u i e = either
      (some _ (λ j. (i ≡ j → ⊥) × BringsType p t u j e) (λ j. both (opposite (Decides-eqb i j)) (brought_tells u j e)) (length p) (λ j h. import_row h.1)) (declared_top_tells p u e)

  other_below : (u i e : ℕ) → OtherType p t u i e → e < length p
  other_below u i e (inl h) = brought_below h.1.1
  other_below u i e (inr h) = type_below p e h.top.type

  static_clash_tells : (i : ℕ) → Decides (plain.has_static_clash p t i) (StaticClash p t i)
  static_clash_tells i = both (import_of_tells p (parent p i) importing.StaticSingle i)
      (some _ (λ d. (IsType p d × ImportedBy p t (parent p i) i d) × ((e : ℕ) × (Clash p d e × OtherType p t (parent p i) i e)))
      (λ d. both (both (type_tells p d) (imported_by_tells p t headed (parent p i) i d))
      (some _ (λ e. Clash p d e × OtherType p t (parent p i) i e) (λ e. both (clash_tells p d e) (other_type_tells (parent p i) i e)) (length p) (λ e h. other_below (parent p i) i e h.1)))
      (length p) (λ d h. type_below p d h.0.0))

  pub static_import_fault_tells : (i : ℕ) → Decides (plain.has_static_import_fault p t i) (StaticImportFault p t i)
  static_import_fault_tells i = either (import_of_nothing_tells i) (static_clash_tells i)
