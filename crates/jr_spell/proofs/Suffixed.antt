-- The names of types that a spelling adds are those of the definition.
use Rattle.std.proofs.Common.{◌≡◌, refl, sym, ◌∙◌, ap, ap₂, subst, arith, ℕ, zero, suc, ◌+◌, ◌-◌, ◌<◌, ◌≤◌, Bool, true, false, List, [], ◌∷◌, ◌++◌, map, reverse, take, length, get_or, Option, Some, None, if◌then◌else◌}
use Rattle.std.specs.List.{AllByRecursion, range_with_len}
use Rattle.std.proofs.lemmas.Bool.{false≢true}
use Rattle.std.proofs.lemmas.List.{get_or_default, get_or-reverse, length-reverse, map-append, reverse-append}
use Rattle.jr_base.specs.declared.text.Text.{Text}
use Rattle.jr_tree.specs.declared.label.Label.TheVariants as is
use Rattle.jr_tree.specs.declared.label.NameKind.{NameKind}
use Rattle.jr_tree.specs.Rows.{Rows, label, name, parent, end}
use Rattle.jr_tree.specs.Tree.{IsTree}
use Rattle.jr_defs.specs.declared.referent.Referent.{Referent}
use Rattle.jr_defs.specs.Referents.{Table}
use Rattle.jr_plain.proofs.Bounds.{bounded}
use Rattle.jr_places.specs.Names.{name_row}
use Rattle.jr_shapes.specs.Names.{is_package, is_body_at, package_at, name_in, package_names, suffix}
use Rattle.jr_shapes.specs.Parts.{end_of}
use Rattle.jr_lookup.proofs.Looking.{named_first}
use Rattle.jr_spelling_rules.specs.Naming.{Before, at_start, kind_before, look_up, qualify}
use Rattle.jr_spelling_rules.specs.Candidates as candidate
use Rattle.jr_spell.specs.declared.added.Added.{Added as Code}
use Rattle.jr_spell.specs.Packaging.{IsNumber}
use Rattle.jr_spell.specs.Adding.{AreWithin, AreNumbersOf, traced, IsAdded}
use Rattle.jr_spell.proofs.Packed.{is_number}

-- an item of a list of which each is such
pub all_at : (P : ℕ → Type 0) (xs : List ℕ) (i d : ℕ) → AllByRecursion P xs → i < length xs → P (get_or xs i d)
all_at P [] i d all lt = absurd (omega arith)
all_at P (x ∷ xs) zero d all lt = all.0
all_at P (x ∷ xs) (suc i) d all lt = all_at P xs i d all.1 (omega arith)

module _ (p : Rows) where
  -- ---- rows of names

  take_within : (k : ℕ) (xs : List ℕ) → AreWithin p xs → AreWithin p (take k xs)
  take_within zero xs h = tt
  take_within (suc k) [] h = tt
  take_within (suc k) (x ∷ xs) h = (h.0, take_within k xs h.1)

  range_within : (a k : ℕ) → ((i : ℕ) → i < k → a + i < length p) → AreWithin p (range_with_len a k)
  range_within a zero h = tt
  range_within a (suc k) h = let first = h 0 (omega arith) in (omega arith, range_within (a + 1) k (λ i lt. let next = h (suc i) (omega arith) in omega arith))

  end_is : (n : ℕ) → n < length p → end_of p n ≡ end p n
  end_is n lt = ap (λ r. r.end) (get_or_default p n (record { label = is.Skip; name = []; parent = n; end = n; previous = n }) (record { label = is.Skip; name = []; parent = n; end = n + 1; previous = n }) lt)

  pub package_within : IsTree p → (first n : ℕ) → AreWithin p (name_in first (package_at p n))
  package_within tree first n = by (is_package (label p n)) refl
    where
      by : (b : Bool) → is_package (label p n) ≡ b → AreWithin p (name_in first (if b then Some (end_of p n) else None))
      by true e = let there = bounded (λ l. is_package l ≡ true) (λ none. false≢true none) p n e in let last = tree.last n there in let same = end_is n there in
          range_within first (end_of p n - first) (λ i lt. omega arith)
      by false e = tt

  parent_within : IsTree p → (n : ℕ) → n < length p → parent p n < length p
  parent_within tree zero lt = subst (λ k. k < length p) (sym tree.root) lt
  parent_within tree (suc n) lt = let less = tree.up (suc n) lt (omega arith) in omega arith

  pub suffix_within : IsTree p → (k c : ℕ) → c < length p → AreWithin p (suffix p k c)
  suffix_within tree zero c lt = tt
  suffix_within tree (suc k) c lt = (lt, by (λ d less. suffix_within tree k d less) (is_body_at p (parent p c)))
    where
      by : ((d : ℕ) → d < length p → AreWithin p (suffix p k d)) → (b : Bool)
          → AreWithin p (elim (if b then Some (parent p (parent p c)) else None) as (λ _. List ℕ) [ Some d ↦ suffix p k d | None ↦ take k (package_names p c) ])
      by over true = over (parent p (parent p c)) (parent_within tree (parent p c) (parent_within tree c lt))
      by over false = take_within k (package_names p c) (package_within tree (parent p c + 1 + 1) (parent p c + 1))

  pub behind_within : (xs : List ℕ) → AreWithin p xs → AreWithin p (candidate.behind_first xs)
  behind_within [] h = tt
  behind_within (x ∷ xs) h = h.1

  -- ---- their numbers

  abbrev numbers : List ℕ → List ℕ
  numbers xs = map (λ n. name_row p n) xs

  abbrev names : List ℕ → List Text
  names xs = map (λ n. name p n) xs

  are_numbers : (xs : List ℕ) → AreWithin p xs → AllByRecursion (IsNumber p) (numbers xs)
  are_numbers [] h = tt
  are_numbers (x ∷ xs) h = (is_number p x h.0, are_numbers xs h.1)

  names_of_numbers : (xs : List ℕ) → names (numbers xs) ≡ names xs
  names_of_numbers [] = refl
  names_of_numbers (x ∷ xs) = ap₂ (λ y ys. y ∷ ys) (named_first p x) (names_of_numbers xs)

  names_reversed : (xs : List ℕ) → names (reverse xs) ≡ reverse (names xs)
  names_reversed [] = refl
  names_reversed (x ∷ xs) = ap (λ ys. names ys) (reverse-append (x ∷ []) xs) ∙ map-append (λ n. name p n) (reverse xs) (x ∷ []) ∙ ap (λ ys. ys ++ name p x ∷ []) (names_reversed xs)
      ∙ sym (reverse-append (name p x ∷ []) (names xs))

  pub numbers_back : (at all : List ℕ) → AreWithin p at → all ≡ reverse (numbers at) → AreNumbersOf p (candidate.texts p at) all
  numbers_back at all h e = subst (λ ys. AreNumbersOf p (candidate.texts p at) ys) (sym e) (record {
    numbers = record {
      each = λ i d lt. let size = length-reverse (numbers at) in
          subst (IsNumber p) (sym (get_or-reverse (numbers at) i d (omega arith))) (all_at (IsNumber p) (numbers at) (length (numbers at) - 1 - i) d (are_numbers at h) (omega arith));
    };
    spells = names_reversed (numbers at) ∙ ap (λ ys. reverse ys) (names_of_numbers at);
  })

  -- ---- the first that refers to the type

  module _ (t : Table) (o : ℕ) (k : NameKind) (c : ℕ) where
    abbrev trace_by : List Referent → Before → Option (List Referent)
    trace_by trace b = traced (candidate.is_same_row (candidate.target (look_up p t o b k (name p c))) c) trace (look_up p t o b k (name p c))

    abbrev trace_from : Option (Before × List Referent) → Option (List Referent)
    trace_from q = elim q as (λ _. Option (List Referent)) [ Some q ↦ trace_by q.1 q.0 | None ↦ None ]

    pub suffix_none : (more : ℕ) → qualify p t o (kind_before k) at_start (candidate.names_before p c more) ≡ None → None ≡ candidate.suffix_trace p t o k c more
    suffix_none more e = sym (ap trace_from e)

    pub suffix_some : (more : ℕ) (b : Before) (trace : List Referent) (found : Referent) (all : Option (List Referent)) → qualify p t o (kind_before k) at_start (candidate.names_before p c more) ≡ Some (b, trace)
        → found ≡ look_up p t o b k (name p c) → all ≡ traced (candidate.is_same_row (candidate.target found) c) trace found → all ≡ candidate.suffix_trace p t o k c more
    suffix_some more b trace found all e looked is = is ∙ ap (λ f. traced (candidate.is_same_row (candidate.target f) c) trace f) looked ∙ sym (ap trace_from e)

    abbrev from : ℕ → ℕ → Option candidate.Added
    from more left = candidate.suffix_from p t o k c more left

    abbrev from_by : ℕ → ℕ → Option (List Referent) → Option candidate.Added
    from_by more left found = elim found as (λ _. Option candidate.Added) [
      | Some all ↦ Some (record { suffix = candidate.suffix_of c (suc more); trace = all })
      | None ↦ from (suc more) left
    ]

    stepped : (more left : ℕ) → 0 < left → from more left ≡ from_by more (left - 1) (candidate.suffix_trace p t o k c more)
    stepped more zero lt = absurd (omega arith)
    stepped more (suc left) lt = let e : left ≡ suc left - 1 = omega arith in ap (λ n. from_by more n (candidate.suffix_trace p t o k c more)) e

    pub added_here : (whole : Option candidate.Added) (more count : ℕ) (a : Code) → whole ≡ from more (count - more) → more < count → a.suffix ≡ candidate.suffix_of c (more + 1) → Some a.trace.items ≡ candidate.suffix_trace p t o k c more
        → IsAdded (Some a) whole
    added_here whole more count a h lt is e = subst (IsAdded (Some a)) (sym (h ∙ stepped more (count - more) (omega arith) ∙ ap (from_by more (count - more - 1)) (sym e)))
        (IsAdded.some (let next : more + 1 ≡ suc more = omega arith in is ∙ ap (candidate.suffix_of c) next) refl)

    pub added_later : (whole : Option candidate.Added) (more count : ℕ) → whole ≡ from more (count - more) → more < count → None ≡ candidate.suffix_trace p t o k c more → whole ≡ from (more + 1) (count - (more + 1))
    added_later whole more count h lt e = let next : suc more ≡ more + 1 = omega arith in let left : count - more - 1 ≡ count - (more + 1) = omega arith in
        h ∙ stepped more (count - more) (omega arith) ∙ ap (from_by more (count - more - 1)) (sym e) ∙ ap₂ (λ m n. from m n) next left

    pub added_nowhere : (whole : Option candidate.Added) (more count : ℕ) → whole ≡ from more (count - more) → count ≤ more → IsAdded None whole
    added_nowhere whole more count h le = let none : count - more ≡ 0 = omega arith in subst (IsAdded None) (sym (h ∙ ap (from more) none)) IsAdded.none
