-- Two bindings that agree on headers agree on all names of types, and so on all declared types.
use Rattle.std.proofs.Common.{◌≡◌, ◌⊎◌, ℕ, suc, zero, ◌+◌, ◌<◌, ◌≤◌, refl, sym, ◌∙◌, ap, subst, inl, inr, arith, List, [], ◌∷◌, length}
use Rattle.std.proofs.lemmas.List.{get_or_past}
use Rattle.std.specs.Prelude.{Option, Some, None}
use Rattle.jr_tree.specs.declared.label.Label.{Label}
use Rattle.jr_tree.specs.declared.label.Label.TheVariants as is
use Rattle.jr_tree.specs.declared.label.ImportKind.{ImportKind}
use Rattle.jr_tree.specs.declared.label.NameKind.{NameKind}
use Rattle.jr_tree.specs.declared.label.NameKind.TheVariants as kind
use Rattle.jr_tree.specs.declared.label.Sought.{Sought}
use Rattle.jr_tree.specs.declared.label.Sought.TheVariants as sought
use Rattle.jr_tree.specs.Exprs.{left_kind}
use Rattle.jr_tree.specs.Labels.{sought_by}
use Rattle.jr_tree.specs.Rows.{Rows, row, label, name, parent, end, sought_at}
use Rattle.jr_tree.specs.Tree.{IsTree}
use Rattle.jr_defs.specs.declared.referent.RowType.{RowType}
use Rattle.jr_defs.specs.declared.referent.Referent.{Referent}
use Rattle.jr_defs.specs.Referents.{Table}
use Rattle.jr_defs.specs.Types.{NamesType, TypeAt, HasType, ParameterTypes, Parameters, deeper, brackets_of, type_row}
use Rattle.jr_defs.specs.Constants.{HasConstantForm}
use Rattle.jr_defs.specs.Lookup.{Otherwise, LookFor, Look}
use Rattle.jr_defs.specs.Binding.{IsBound}
use Rattle.jr_defs.specs.Declarations.{IsType}
use Rattle.jr_defs.specs.Laws.{SameHeaders}
use Rattle.jr_defs.specs.Formed.{SeeksType, IsNameLabel, SeeksKind, NamesTypeFirst, IsFormed}
use Rattle.jr_defs.specs.Correspondence.{Sees, Corresponds, moved, moved_type, moved_types}
use Rattle.jr_defs.proofs.Unique.{IsOne, answer_unique}
use Rattle.jr_defs.proofs.Carry.{look_carries}
use Rattle.jr_defs.proofs.Itself.{same, moved_same, type_same, types_same, turned_headers, SameImports, SameImportNames, same_imports, SameFirst, type_search}

-- ---- one answer

pub otherwise_one : (p : Rows) (t : Table) (K : ℕ → Type 0) (o : ℕ) (x : _) (s : Sought) → IsOne (Otherwise p t K o x s)
otherwise_one p t K o x s _ _ (Otherwise.package_name h) (Otherwise.package_name k) = refl
otherwise_one p t K o x s _ _ (Otherwise.package_name h) (Otherwise.length n k) = absurd (n h)
otherwise_one p t K o x s _ _ (Otherwise.package_name h) (Otherwise.unbound n k) = absurd (n h)
otherwise_one p t K o x s _ _ (Otherwise.length n k) (Otherwise.package_name h) = absurd (n h)
otherwise_one p t K o x s _ _ (Otherwise.length n k) (Otherwise.length m h) = refl
otherwise_one p t K o x s _ _ (Otherwise.length n k) (Otherwise.unbound m h) = absurd (h k)
otherwise_one p t K o x s _ _ (Otherwise.unbound n k) (Otherwise.package_name h) = absurd (n h)
otherwise_one p t K o x s _ _ (Otherwise.unbound n k) (Otherwise.length m h) = absurd (k h)
otherwise_one p t K o x s _ _ (Otherwise.unbound n k) (Otherwise.unbound m h) = refl

-- what looks up alike is bound alike
pub bound_same : (p : Rows) (t u : Table) (C : ℕ → Type 0) (o : ℕ) → Look p t (HasConstantForm p t) o (t o) → Look p u (HasConstantForm p u) o (u o)
    → Corresponds p t (HasConstantForm p t) p u (HasConstantForm p u) same same C C o o (sought_at p o)
    → Corresponds p u (HasConstantForm p u) p t (HasConstantForm p t) same same C C o o (sought_at p o) → t o ≡ u o
bound_same p t u C o a b to from =
    let l = look_carries p t (HasConstantForm p t) p u (HasConstantForm p u) same same C C o o (name p o) (sought_at p o) to from (t o) a in
    sym (moved_same (t o)) ∙ answer_unique _ _ (otherwise_one p u (HasConstantForm p u) o (name p o) (sought_at p o)) (moved same (t o)) (u o) l b

-- ---- names of types

pub seeks_past : (p : Rows) (n : ℕ) → length p ≤ n → SeeksType (sought_at p n) → ⊥
seeks_past p n le h = let e = get_or_past p n (record { label = is.Skip; name = []; parent = n; end = n + 1; previous = n }) le in
    subst (λ r. SeeksType (sought_by r.label)) e h

kind_seeks : (k : NameKind) (s : Sought) → SeeksKind k s → SeeksType (sought.Simple k) → SeeksType s
kind_seeks k _ SeeksKind.simple h = h
kind_seeks kind.Type _ SeeksKind.qualified h = tt
kind_seeks kind.PackageOrType _ SeeksKind.qualified h = tt
kind_seeks kind.Variable _ SeeksKind.qualified h = h
kind_seeks kind.Ambiguous _ SeeksKind.qualified h = h
kind_seeks kind.Package _ SeeksKind.qualified h = h

-- what is below the name of a type is one
pub below_seeks : (p : Rows) (n : ℕ) → IsFormed p → (s : Sought) → sought_at p n ≡ s → SeeksType s → parent p (n + 1) ≡ n → SeeksType (sought_at p (n + 1))
below_seeks p n formed (sought.Simple k) e h below = absurd (formed.simple_leaf n k e below)
below_seeks p n formed (sought.Qualified kind.Type) e h below = kind_seeks kind.PackageOrType (sought_at p (n + 1)) (formed.qualifier n kind.Type e) tt
below_seeks p n formed (sought.Qualified kind.PackageOrType) e h below = kind_seeks kind.PackageOrType (sought_at p (n + 1)) (formed.qualifier n kind.PackageOrType e) tt
below_seeks p n formed _ e h below = absurd h

-- in an import nothing is imported
pub no_imports : (p : Rows) → IsFormed p → (v w : Table) (i o : ℕ) (form : ImportKind) → label p i ≡ is.Import form → i < o → o < end p i → SameImports p v w o
no_imports p formed v w i o form e lo hi = record {
  single = λ d x. absurd (formed.imports_apart i o x.holds.top form e lo hi x.holds.inside);
  static = λ d k x. absurd (formed.imports_apart i o x.holds.top form e lo hi x.holds.inside);
  demanded = λ d x. absurd (formed.imports_apart i o x.holds.top form e lo hi x.holds.inside);
}

module _ (p : Rows) (t u : Table) (formed : IsFormed p) (a : IsBound p t) (b : IsBound p u) (h : SameHeaders p t u) where
  type_same_at : (o : ℕ) → SeeksType (sought_at p o) → SameImports p t u o → SameImports p u t o → SameFirst p t u o → t o ≡ u o
  type_same_at o seeks imports back first = bound_same p t u (IsType p) o (a o) (b o)
      (type_search p t u (HasConstantForm p t) (HasConstantForm p u) o seeks h imports first)
      (type_search p u t (HasConstantForm p u) (HasConstantForm p t) o seeks (turned_headers p t u h) back (λ w. sym (first w)))

  inside_too : (i n : ℕ) → i < n → n < end p i → parent p (n + 1) ≡ n → n + 1 < end p i
  inside_too i n lo hi e = elim (side (n + 1)) [
    | inl l ↦ (let z = formed.tree.held (n + 1) l (omega arith) in let y = formed.tree.apart i n lo hi in
        let w = subst (λ m. n + 1 < end p m) e z in omega arith)
    | inr g ↦ (let z = ap (λ r. r.parent) (get_or_past p (n + 1) (record { label = is.Skip; name = []; parent = n + 1; end = n + 1 + 1; previous = n + 1 }) g) in
        let y : n + 1 ≡ n = sym z ∙ e in absurd (omega arith))
  ]
    where
      side : (m : ℕ) → (m < length p) ⊎ (length p ≤ m)
      side m = grind arith

  imports_from : (k o : ℕ) → length p ≤ o + k → (n i : ℕ) (form : ImportKind) → o ≤ n → label p i ≡ is.Import form → i < n → n < end p i → SeeksType (sought_at p n) → t n ≡ u n
  imports_from zero o le n i form after e lo hi seeks = absurd (seeks_past p n (omega arith) seeks)
  imports_from (suc k) o le n i form after e lo hi seeks = type_same_at n seeks (no_imports p formed t u i n form e lo hi) (no_imports p formed u t i n form e lo hi)
      (λ below. imports_from k (o + 1) (omega arith) (n + 1) i form (omega arith) e (omega arith) (inside_too i n lo hi below) (below_seeks p n formed (sought_at p n) refl seeks below))

  pub import_names_agree : SameImportNames p t u
  import_names_agree = record {
    at = λ i form e. imports_from (length p) 0 (omega arith) (i + 1) i form (omega arith) e (omega arith) (formed.import_name i form e)
        (formed.first_name i (subst NamesTypeFirst (sym e) NamesTypeFirst.import));
  }

pub record SameTypes (p : Rows) (t u : Table) : Type 0 where
  pub at : (n : ℕ) → SeeksType (sought_at p n) → t n ≡ u n

pub turned_names : (p : Rows) (t u : Table) → SameImportNames p t u → SameImportNames p u t
turned_names p t u h = record { at = λ i form e. sym (h.at i form e) }

pub turned_types : (p : Rows) (t u : Table) → SameTypes p t u → SameTypes p u t
turned_types p t u h = record { at = λ n k. sym (h.at n k) }

module _ (p : Rows) (t u : Table) (formed : IsFormed p) (a : IsBound p t) (b : IsBound p u) (h : SameHeaders p t u) where
  types_from : (k o : ℕ) → length p ≤ o + k → (n : ℕ) → o ≤ n → SeeksType (sought_at p n) → t n ≡ u n
  types_from zero o le n after seeks = absurd (seeks_past p n (omega arith) seeks)
  types_from (suc k) o le n after seeks =
      let names = import_names_agree p t u formed a b h in
      type_same_at p t u formed a b h n seeks (same_imports p t u h names n) (same_imports p u t (turned_headers p t u h) (turned_names p t u names) n)
      (λ below. types_from k (o + 1) (omega arith) (n + 1) (omega arith) (below_seeks p n formed (sought_at p n) refl seeks below))

  pub types_agree : SameTypes p t u
  types_agree = record { at = λ n seeks. types_from (length p) 0 (omega arith) n (omega arith) seeks }

-- ---- declared types

module _ (p : Rows) (t u : Table) (formed : IsFormed p) (types : SameTypes p t u) where
  pub type_name_same : (n c : ℕ) → NamesTypeFirst (label p n) → NamesType p t n c → NamesType p u n c
  type_name_same n c first w = record { first = w.first; level = w.level; refers = sym (types.at (n + 1) (formed.first_name n first)) ∙ w.refers; type = w.type }

  pub type_at_same : (n : ℕ) (a : RowType) → TypeAt p t n a → TypeAt p u n a
  type_at_same n _ (TypeAt.primitive e) = TypeAt.primitive e
  type_at_same n _ (TypeAt.named {c = c} e w) = TypeAt.named e (type_name_same n c (subst NamesTypeFirst (sym e) NamesTypeFirst.type_use) w)

  pub has_type_same : (d : ℕ) (a : RowType) → HasType p t d a → HasType p u d a
  has_type_same d _ (HasType.field {a = a} e w) = HasType.field e (type_at_same (type_row p d) a w)
  has_type_same d _ (HasType.local {a = a} e w) = HasType.local e (type_at_same (type_row p d) a w)
  has_type_same d _ (HasType.parameter {a = a} e w) = HasType.parameter e (type_at_same (d + 1) a w)
  has_type_same d _ (HasType.nothing e) = HasType.nothing e
  has_type_same d a (HasType.outcome e w) = HasType.outcome e (type_at_same (d + 1) a w)

  parameters_same : (m k : ℕ) (all : List RowType) → ParameterTypes p t m k all → ParameterTypes p u m k all
  parameters_same m k _ (ParameterTypes.parameter {a = a} {more = more} e r w rest) = ParameterTypes.parameter e r (has_type_same k a w) (parameters_same m (end p k) more rest)
  parameters_same m k all (ParameterTypes.other e r rest) = ParameterTypes.other e r (parameters_same m (end p k) all rest)
  parameters_same m k _ (ParameterTypes.done e) = ParameterTypes.done e

  pub sees_same : Sees p t p u same
  sees_same = record {
    has_type = λ d a w. subst (HasType p u d) (sym (type_same a)) (has_type_same d a w);
    parameters = λ m all w. subst (Parameters p u m) (sym (types_same all)) (parameters_same m (m + 1) all w);
  }
