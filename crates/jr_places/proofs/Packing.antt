-- Two rows have one number where they stand in one package.
use Rattle.std.proofs.Common.{◌≡◌, ◌⊎◌, refl, sym, ◌∙◌, ap, ap₂, subst, inl, inr, ⊎_elim, arith, le_antisymm, add-one, ℕ, zero, suc, ◌+◌, ◌-◌, ◌<◌, ◌≤◌, Bool, true, false, cond, List, [], ◌∷◌, ◌++◌, length, length-append, Option, Some, None, nat_eq, Decides}
use Rattle.std.specs.Prelude.{bytes_eq, unwrap_or, slice_index_or}
use Rattle.std.specs.Option.{option_or}
use Rattle.std.proofs.lemmas.Bool.{false≢true, cases_eq, cases_lt, cases_Bool}
use Rattle.std.proofs.lemmas.Bool.Decides.{Decides-eqb}
use Rattle.std.proofs.lemmas.Slice.Eq.{bytes_eq-Decides}
use Rattle.std.proofs.lemmas.List.{get_or_past}
use Rattle.std.proofs.lemmas.Option.{none-some, same_Some}
use Rattle.std.proofs.Math.Seq.{get_or-append_seam}
use Rattle.std.proofs.Math.ListN.{get_or-append}
use Rattle.jr_base.specs.declared.text.Text.{Text}
use Rattle.jr_tree.specs.declared.label.Label.{Label}
use Rattle.jr_tree.specs.declared.label.Label.TheVariants as is
use Rattle.jr_tree.specs.Rows.{Rows, label, name, parent, end}
use Rattle.jr_tree.specs.Tree.{IsTree}
use Rattle.jr_tree.specs.Local.{IsLocal}
use Rattle.jr_defs.specs.Packages.{identifiers, spelled, package_by, package_of, InUnit, InPackage, SamePackage}
use Rattle.jr_plain.specs.Search.{first_below, Finds}
use Rattle.jr_plain.specs.Enclosing.{is_unit}
use Rattle.jr_plain.specs.Packages.{is_same_package}
use Rattle.jr_plain.proofs.Tests.{like}
use Rattle.jr_plain.proofs.Searches.{finds_first}
use Rattle.jr_plain.proofs.Bounds.{unit_below}
use Rattle.jr_plain.proofs.Enclosed.{unit_label_tells}
use Rattle.jr_defs.proofs.Units.{one_unit}
use Rattle.jr_plain.proofs.Packaged.{same_package_tells}
use Rattle.jr_places.specs.declared.numbering.Numbering.{Numbering}
use Rattle.jr_places.specs.Numbers.{number_in, IsOneToOne, IsNumbering, Keeps, Adds, IsNumberOf}
use Rattle.jr_places.specs.Tabulated.{tabulated}
use Rattle.jr_places.proofs.Numbered.{number_kept, one_number, one_list}
use Rattle.jr_places.proofs.Naming.{named_at}
use Rattle.jr_places.specs.declared.units.Packages as code
use Rattle.jr_places.specs.Names.{name_row}
use Rattle.jr_places.specs.Packages.{PackagesAreNamed, is_package, names_to, path_of, Numbered, IsPackageOf, ArePackagesTo, PackageAt, ArePackages, IsSpelled, same_some}

-- ---- names

none_first : (test : ℕ → Bool) (n : ℕ) → first_below n test ≡ None → (j : ℕ) → j < n → test j ≡ true → ⊥
none_first test zero e j lt h = absurd (omega arith)
none_first test (suc n) e j lt h = by (first_below n test) refl (test n) refl e (λ is less. none_first test n is j less h)
  where
    by : (o : Option ℕ) → first_below n test ≡ o → (b : Bool) → test n ≡ b → option_or o (cond b (Some n) None) ≡ None → (first_below n test ≡ None → j < n → ⊥) → ⊥
    by (Some k) is b here e more = none-some k (sym e)
    by None is true here e more = none-some n (sym e)
    by None is false here e more = ⊎_elim (λ same. false≢true (sym here ∙ ap test (sym same) ∙ h)) (λ apart. more is (omega arith)) (cases_eq j n)

module _ (p : Rows) where
  -- the first row with the name of n
  abbrev IsLeast : ℕ → ℕ → Type 0
  IsLeast n k = (name p n ≡ name p k) × ((j : ℕ) → name p n ≡ name p j → k ≤ j)

  least_is : (n : ℕ) → IsLeast n (name_row p n)
  least_is n = by (first_below n (λ k. bytes_eq (name p n) (name p k))) refl
    where
      by : (o : Option ℕ) → first_below n (λ k. bytes_eq (name p n) (name p k)) ≡ o → (name p n ≡ name p (unwrap_or o n)) × ((j : ℕ) → name p n ≡ name p j → unwrap_or o n ≤ j)
      by (Some k) e = let first = (finds_first (λ k. bytes_eq (name p n) (name p k)) (λ k. name p n ≡ name p k) (λ k. bytes_eq-Decides (name p n) (name p k)) n k).0 e in (first.1, first.2)
      by None e = (refl, λ j same. ⊎_elim (λ lt. absurd (none_first (λ k. bytes_eq (name p n) (name p k)) n e j lt ((bytes_eq-Decides (name p n) (name p j)).1 same))) (λ le. le) (cases_lt j n))

  pub name_tells : (m k : ℕ) → Decides (nat_eq (name_row p m) (name_row p k)) (name p m ≡ name p k)
  name_tells m k = like (Decides-eqb (name_row p m) (name_row p k)) (λ e. (least_is m).0 ∙ ap (name p) e ∙ sym (least_is k).0)
      (λ same. le_antisymm ((least_is m).1 (name_row p k) (same ∙ (least_is k).0)) ((least_is k).1 (name_row p m) (sym same ∙ (least_is m).0)))

  -- ---- names of several rows

  abbrev texts_to : ℕ → ℕ → List Text
  texts_to n zero = []
  texts_to n (suc k) = name p (n + k) ∷ texts_to n k

  texts_more : (n k : ℕ) → texts_to (n + 1) k ++ name p n ∷ [] ≡ texts_to n (suc k)
  texts_more n zero = ap (λ m. name p m ∷ []) (omega arith)
  texts_more n (suc k) = ap₂ (λ m xs. name p m ∷ xs) (omega arith) (texts_more n k)

  identifiers_are : (n k : ℕ) → identifiers p n k ≡ texts_to n (suc k)
  identifiers_are n zero = ap (λ m. name p m ∷ []) (omega arith)
  identifiers_are n (suc k) = ap (λ xs. xs ++ name p n ∷ []) (identifiers_are (n + 1) k) ∙ texts_more n (suc k)

  abbrev first_of : List ℕ → ℕ
  first_of [] = 0
  first_of (x ∷ xs) = x

  abbrev rest_of : List ℕ → List ℕ
  rest_of [] = []
  rest_of (x ∷ xs) = xs

  abbrev first_text : List Text → Text
  first_text [] = name p 0
  first_text (x ∷ xs) = x

  abbrev rest_texts : List Text → List Text
  rest_texts [] = []
  rest_texts (x ∷ xs) = xs

  texts_same : (n m k j : ℕ) → names_to p n k ≡ names_to p m j → texts_to n k ≡ texts_to m j
  texts_same n m zero zero e = refl
  texts_same n m zero (suc j) e = let size = ap length e in absurd (omega arith)
  texts_same n m (suc k) zero e = let size = ap length e in absurd (omega arith)
  texts_same n m (suc k) (suc j) e = ap₂ (λ x xs. x ∷ xs) ((name_tells (n + k) (m + j)).0 ((Decides-eqb (name_row p (n + k)) (name_row p (m + j))).1 (ap first_of e))) (texts_same n m k j (ap rest_of e))

  names_same : (n m k j : ℕ) → texts_to n k ≡ texts_to m j → names_to p n k ≡ names_to p m j
  names_same n m zero zero e = refl
  names_same n m zero (suc j) e = let size = ap length e in absurd (omega arith)
  names_same n m (suc k) zero e = let size = ap length e in absurd (omega arith)
  names_same n m (suc k) (suc j) e = ap₂ (λ x xs. x ∷ xs) ((Decides-eqb (name_row p (n + k)) (name_row p (m + j))).0 ((name_tells (n + k) (m + j)).1 (ap first_text e))) (names_same n m k j (ap rest_texts e))

  -- ---- packages of units

  package_is : (l : Label) (u : ℕ) → package_by l p u ≡ cond (is_package l) (spelled p (u + 2)) []
  package_is is.Package u = refl
  package_is _ u = refl

  spelled_is : IsTree p → (n : ℕ) → spelled p n ≡ texts_to n (end p n - n)
  spelled_is tree n = let lt = tree.nested n in let e : suc (end p n - (n + 1)) ≡ end p n - n = omega arith in identifiers_are n (end p n - (n + 1)) ∙ ap (texts_to n) e

  some_names : IsTree p → (n : ℕ) → names_to p n (end p n - n) ≡ [] → ⊥
  some_names tree n e = let lt = tree.nested n in let more : end p n - n ≡ suc (end p n - (n + 1)) = omega arith in let size = ap length (sym (ap (names_to p n) more) ∙ e) in omega arith

  some_texts : IsTree p → (n : ℕ) → texts_to n (end p n - n) ≡ [] → ⊥
  some_texts tree n e = let lt = tree.nested n in let more : end p n - n ≡ suc (end p n - (n + 1)) = omega arith in let size = ap length (sym (ap (texts_to n) more) ∙ e) in omega arith

  module _ (tree : IsTree p) (u v : ℕ) where
    abbrev path_by : ℕ → Bool → List ℕ
    path_by n b = cond b (names_to p n (end p n - n)) []

    abbrev texts_by : ℕ → Bool → List Text
    texts_by n b = cond b (texts_to n (end p n - n)) []

    paths_to_texts : (a b : Bool) → path_by (u + 2) a ≡ path_by (v + 2) b → texts_by (u + 2) a ≡ texts_by (v + 2) b
    paths_to_texts true true e = texts_same (u + 2) (v + 2) (end p (u + 2) - (u + 2)) (end p (v + 2) - (v + 2)) e
    paths_to_texts true false e = absurd (some_names tree (u + 2) e)
    paths_to_texts false true e = absurd (some_names tree (v + 2) (sym e))
    paths_to_texts false false e = refl

    texts_to_paths : (a b : Bool) → texts_by (u + 2) a ≡ texts_by (v + 2) b → path_by (u + 2) a ≡ path_by (v + 2) b
    texts_to_paths true true e = names_same (u + 2) (v + 2) (end p (u + 2) - (u + 2)) (end p (v + 2) - (v + 2)) e
    texts_to_paths true false e = absurd (some_texts tree (u + 2) e)
    texts_to_paths false true e = absurd (some_texts tree (v + 2) (sym e))
    texts_to_paths false false e = refl

    package_texts : (w : ℕ) → package_of p w ≡ texts_by (w + 2) (is_package (label p (w + 1)))
    package_texts w = package_is (label p (w + 1)) w ∙ ap (λ xs. cond (is_package (label p (w + 1))) xs []) (spelled_is tree (w + 2))

    path_package : path_of p u ≡ path_of p v → package_of p u ≡ package_of p v
    path_package e = package_texts u ∙ paths_to_texts (is_package (label p (u + 1))) (is_package (label p (v + 1))) e ∙ sym (package_texts v)

    package_path : package_of p u ≡ package_of p v → path_of p u ≡ path_of p v
    package_path e = texts_to_paths (is_package (label p (u + 1))) (is_package (label p (v + 1))) (sym (package_texts u) ∙ e ∙ package_texts v)

  -- ---- names of packages

  module _ (tree : IsTree p) (u n : ℕ) where
    name_texts : (b : Bool) → cond b (names_to p (u + 2) (end p (u + 2) - (u + 2))) [] ≡ names_to p n (end p n - n) → cond b (texts_to (u + 2) (end p (u + 2) - (u + 2))) [] ≡ texts_to n (end p n - n)
    name_texts true e = texts_same (u + 2) n (end p (u + 2) - (u + 2)) (end p n - n) e
    name_texts false e = absurd (some_names tree n (sym e))

    text_names : (b : Bool) → cond b (texts_to (u + 2) (end p (u + 2) - (u + 2))) [] ≡ texts_to n (end p n - n) → cond b (names_to p (u + 2) (end p (u + 2) - (u + 2))) [] ≡ names_to p n (end p n - n)
    text_names true e = names_same (u + 2) n (end p (u + 2) - (u + 2)) (end p n - n) e
    text_names false e = absurd (some_texts tree n (sym e))

    path_spelled : path_of p u ≡ names_to p n (end p n - n) → package_of p u ≡ spelled p n
    path_spelled e = package_texts tree u n u ∙ name_texts (is_package (label p (u + 1))) e ∙ sym (spelled_is tree n)

    spelled_path : package_of p u ≡ spelled p n → path_of p u ≡ names_to p n (end p n - n)
    spelled_path e = text_names (is_package (label p (u + 1))) (sym (package_texts tree u n u) ∙ e ∙ spelled_is tree n)

  module _ (numbers : ℕ → ℕ → Option ℕ) (n : ℕ) where
    -- the number of a name gives one of each part that it begins with
    last_step : (k number : ℕ) (xs : List ℕ) → xs ≡ names_to p n (suc k) → IsNumberOf numbers number xs → (m : ℕ) × IsNumberOf numbers m (names_to p n k) × (numbers m (name_row p (n + k)) ≡ Some number)
    last_step k _ _ e IsNumberOf.empty = let size = ap length e in absurd (omega arith)
    last_step k number _ e (IsNumberOf.more {list = list} {item = item} {before = before} h is) =
        (list, subst (λ xs. IsNumberOf numbers list xs) (ap rest_of e) h, subst (λ x. numbers list x ≡ Some number) (ap first_of e) is)

    front_step : (k j number : ℕ) → j < k → IsNumberOf numbers number (names_to p n k) → (m : ℕ) × (next : ℕ) × IsNumberOf numbers m (names_to p n j) × (numbers m (name_row p (n + j)) ≡ Some next)
    front_step zero j number lt h = absurd (omega arith)
    front_step (suc k) j number lt h = let l = last_step k number (names_to p n (suc k)) refl h in
        ⊎_elim (λ same. subst (λ j. (m : ℕ) × (next : ℕ) × IsNumberOf numbers m (names_to p n j) × (numbers m (name_row p (n + j)) ≡ Some next)) (sym same) (l.0, number, l.1, l.2))
        (λ apart. front_step k j l.0 (omega arith) l.1) (cases_eq j k)

    pub spelled_start : (k number : ℕ) → k ≡ 0 → number ≡ 0 → IsNumberOf numbers number (names_to p n k)
    spelled_start k number none same = subst (λ x. IsNumberOf numbers x (names_to p n k)) (sym same) (subst (λ k. IsNumberOf numbers 0 (names_to p n k)) (sym none) IsNumberOf.empty)

    pub spelled_more : (names : List ℕ) (place item number next : ℕ) → names ≡ tabulated (name_row p) (length p) → n ≤ place → place < length p → IsNumberOf numbers number (names_to p n (place - n))
        → item ≡ slice_index_or names place place → numbers number item ≡ Some next → IsNumberOf numbers next (names_to p n (place + 1 - n))
    spelled_more names place item number next all le lt h item_is found = let same : n + (place - n) ≡ place = omega arith in let more : suc (place - n) ≡ place + 1 - n = omega arith in
        subst (λ k. IsNumberOf numbers next (names_to p n k)) more (subst (λ x. IsNumberOf numbers next (x ∷ names_to p n (place - n))) (item_is ∙ named_at p names place all lt ∙ ap (name_row p) (sym same)) (IsNumberOf.more h found))

    -- a part that has no number
    pub spelled_none : (names : List ℕ) (place item number k : ℕ) → names ≡ tabulated (name_row p) (length p) → n ≤ place → place < length p → place - n < k → IsNumberOf numbers number (names_to p n (place - n))
        → item ≡ slice_index_or names place place → numbers number item ≡ None → Finds None (λ m. IsNumberOf numbers m (names_to p n k))
    spelled_none names place item number k all le lt less h item_is none m = (
      λ e. absurd (none-some m e),
      λ is. let f = front_step k (place - n) m less is in let same : n + (place - n) ≡ place = omega arith in
          absurd (none-some f.1 (sym none ∙ ap₂ numbers (one_number numbers number f.0 (names_to p n (place - n)) h f.2) (item_is ∙ named_at p names place all lt ∙ ap (name_row p) (sym same)) ∙ f.3)),
    )

    pub spelled_end : (k j number : ℕ) → k ≡ j → IsNumberOf numbers number (names_to p n k) → Finds (Some number) (λ m. IsNumberOf numbers m (names_to p n j))
    spelled_end k j number same h m = let here = subst (λ k. IsNumberOf numbers number (names_to p n k)) same h in
        (λ e. subst (λ x. IsNumberOf numbers x (names_to p n j)) (same_Some number m e) here, λ is. ap Some (one_number numbers number m (names_to p n j) here is))

  -- a row stands in the package that a name spells
  pub in_spelled : IsLocal p → (packages : code.Packages) → ArePackages p packages → (n o : ℕ) (found : Option ℕ) → Finds found (IsSpelled p packages n)
      → Decides (same_some found (slice_index_or packages.of_rows.items o None)) (InPackage p (spelled p n) o)
  in_spelled local packages h n o found f = by found (slice_index_or packages.of_rows.items o None) f (h.each o)
    where
      by : (a b : Option ℕ) → Finds a (IsSpelled p packages n) → IsPackageOf p (number_in packages.paths) o b → Decides (same_some a b) (InPackage p (spelled p n) o)
      by None None f k = (λ e. absurd (false≢true e), λ s. absurd (k s.unit s.holds))
      by (Some a) None f k = (λ e. absurd (false≢true e), λ s. absurd (k s.unit s.holds))
      by None (Some b) f k = (
        λ e. absurd (false≢true e),
        λ s. let one = one_unit p local o k.0 s.unit k.1 s.holds in
            absurd (none-some b ((f b).1 (subst (λ xs. IsNumberOf (number_in packages.paths) b xs) (spelled_path local.tree k.0 n (ap (package_of p) one ∙ s.has_path)) k.2))),
      )
      by (Some a) (Some b) f k = (
        λ e. let same = (Decides-eqb a b).0 e in
            let paths = one_list (number_in packages.paths) h.counted.one b (path_of p k.0) (names_to p n (end p n - n)) k.2 ((f b).0 (ap Some same)) in
            record { unit = k.0; holds = k.1; has_path = path_spelled local.tree k.0 n paths },
        λ s. let one = one_unit p local o k.0 s.unit k.1 s.holds in
            (Decides-eqb a b).1 (same_Some a b ((f b).1 (subst (λ xs. IsNumberOf (number_in packages.paths) b xs) (spelled_path local.tree k.0 n (ap (package_of p) one ∙ s.has_path)) k.2))),
      )

  -- ---- two rows

  module _ (local : IsLocal p) (packages : code.Packages) (h : ArePackages p packages) where
    same_by : (m n : ℕ) (a b : Option ℕ) → IsPackageOf p (number_in packages.paths) m a → IsPackageOf p (number_in packages.paths) n b → Decides (same_some a b) (SamePackage p m n)
    same_by m n None b j k = (λ e. absurd (false≢true e), λ s. absurd (j s.first.unit s.first.holds))
    same_by m n (Some a) None j k = (λ e. absurd (false≢true e), λ s. absurd (k s.second.unit s.second.holds))
    same_by m n (Some a) (Some b) j k = (
      λ e. let same = (Decides-eqb a b).0 e in
          let paths = one_list (number_in packages.paths) h.counted.one a (path_of p j.0) (path_of p k.0) j.2 (subst (λ x. IsNumberOf (number_in packages.paths) x (path_of p k.0)) (sym same) k.2) in
          record { path = package_of p j.0; first = record { unit = j.0; holds = j.1; has_path = refl }; second = record { unit = k.0; holds = k.1; has_path = sym (path_package local.tree j.0 k.0 paths) } },
      λ s. let one = one_unit p local m j.0 s.first.unit j.1 s.first.holds in let other = one_unit p local n k.0 s.second.unit k.1 s.second.holds in
          let same : package_of p j.0 ≡ package_of p k.0 = ap (package_of p) one ∙ s.first.has_path ∙ sym s.second.has_path ∙ ap (package_of p) (sym other) in
          (Decides-eqb a b).1 (one_number (number_in packages.paths) a b (path_of p k.0) (subst (λ xs. IsNumberOf (number_in packages.paths) a xs) (package_path local.tree j.0 k.0 same) j.2) k.2),
    )

    one_of : (a b : Bool) (P : Type 0) → Decides a P → Decides b P → a ≡ b
    one_of true true P d e = refl
    one_of true false P d e = sym (e.1 (d.0 refl))
    one_of false true P d e = d.1 (e.0 refl)
    one_of false false P d e = refl

    pub same_is : (m n : ℕ) → same_some (slice_index_or packages.of_rows.items m None) (slice_index_or packages.of_rows.items n None) ≡ is_same_package p m n
    same_is m n = one_of _ _ (SamePackage p m n) (same_by m n (slice_index_or packages.of_rows.items m None) (slice_index_or packages.of_rows.items n None) (h.each m) (h.each n)) (same_package_tells p m n)

  -- ---- one row more

  pub numbered_start : (old : Numbering) (n k number : ℕ) → k ≡ 0 → number ≡ 0 → IsNumbering old → Numbered old old number (names_to p n k)
  numbered_start old n k number none same h = record {
    is = subst (λ x. IsNumberOf (number_in old) x (names_to p n k)) (sym same) (subst (λ k. IsNumberOf (number_in old) 0 (names_to p n k)) (sym none) IsNumberOf.empty);
    kept = λ list item m e. e;
    counted = h;
  }

  numbered_more : (n k : ℕ) {old now new : Numbering} {item number next : ℕ} → Numbered old now number (names_to p n k) → Adds now new number item next → item ≡ name_row p (n + k) → Numbered old new next (names_to p n (suc k))
  numbered_more n k {old} {now} {new} {item} {number} {next} h a named = record {
    is = subst (λ x. IsNumberOf (number_in new) next (x ∷ names_to p n k)) named (IsNumberOf.more (number_kept (number_in now) (number_in new) a.kept number (names_to p n k) h.is) a.has);
    kept = λ list x m e. a.kept list x m (h.kept list x m e);
    counted = a.counted;
  }

  pub numbered_next : (names : List ℕ) (old now new : Numbering) (at place item number next : ℕ) → names ≡ tabulated (name_row p) (length p) → at ≤ place → place < length p → Numbered old now number (names_to p at (place - at))
      → Adds now new number item next → item ≡ slice_index_or names place place → Numbered old new next (names_to p at (place + 1 - at))
  numbered_next names old now new at place item number next all le lt h a item_is = let same : at + (place - at) ≡ place = omega arith in let more : suc (place - at) ≡ place + 1 - at = omega arith in
      subst (λ k. Numbered old new next (names_to p at k)) more (numbered_more at (place - at) h a (item_is ∙ named_at p names place all lt ∙ ap (name_row p) (sym same)))

  pub numbered_end : (old new : Numbering) (at k j number : ℕ) → k ≡ j → Numbered old new number (names_to p at k) → Numbered old new number (names_to p at j)
  numbered_end old new at k j number e h = subst (λ k. Numbered old new number (names_to p at k)) e h

  -- ---- the package of a unit

  pub package_label : (l : Label) → is_package l ≡ true → l ≡ is.Package
  package_label is.Package e = refl
  package_label _ e = absurd (false≢true e)

  pub numbered_none : (old : Numbering) (u n number : ℕ) → n ≡ u + 1 → is_package (label p n) ≡ false → number ≡ 0 → IsNumbering old → Numbered old old number (path_of p u)
  numbered_none old u n number same none first h = let e : path_of p u ≡ [] = ap (λ m. cond (is_package (label p m)) (names_to p (u + 2) (end p (u + 2) - (u + 2))) []) (sym same) ∙ ap (λ b. cond b (names_to p (u + 2) (end p (u + 2) - (u + 2))) []) none in record {
    is = subst (λ x. IsNumberOf (number_in old) x (path_of p u)) (sym first) (subst (λ xs. IsNumberOf (number_in old) 0 xs) (sym e) IsNumberOf.empty);
    kept = λ list item m k. k;
    counted = h;
  }

  pub path_named : (u m n : ℕ) → m ≡ u + 1 → n ≡ u + 2 → is_package (label p m) ≡ true → names_to p n (end p n - n) ≡ path_of p u
  path_named u m n same next named = ap (λ n. names_to p n (end p n - n)) next ∙ sym (ap (λ b. cond b (names_to p (u + 2) (end p (u + 2) - (u + 2))) []) (ap (λ m. is_package (label p m)) (sym same) ∙ named))

  module _ (local : IsLocal p) where
    unit_parent : (u o : ℕ) → 0 < o → o < length p → (label p o ≡ is.Unit → ⊥) → InUnit p u o → InUnit p u (parent p o)
    unit_parent u o more lt other h = let from = h.from in let before = h.before in let up = local.tree.up o lt more in
        ⊎_elim (λ same. absurd (other (subst (λ x. label p x ≡ is.Unit) same h.unit))) (λ apart. record { unit = h.unit; from = local.tree.inner u o (omega arith) before; before = omega arith }) (cases_eq u o)

    unit_child : (u o : ℕ) → 0 < o → o < length p → InUnit p u (parent p o) → InUnit p u o
    unit_child u o more lt h = let from = h.from in let before = h.before in let up = local.tree.up o lt more in let held = local.tree.held o lt more in record {
      unit = h.unit;
      from = omega arith;
      before = ⊎_elim (λ same. let e = ap (end p) same in omega arith) (λ apart. let le = local.tree.apart u (parent p o) (omega arith) before in omega arith) (cases_eq u (parent p o));
    }

    none_at_root : (u : ℕ) → InUnit p u 0 → ⊥
    none_at_root u h = let from = h.from in let zero : u ≡ 0 = omega arith in let at : label p u ≡ is.Program = ap (label p) zero ∙ local.program in let unit = h.unit in cc

    package_up : (numbers : ℕ → ℕ → Option ℕ) (o : ℕ) (found : Option ℕ) → 0 < o → o < length p → (label p o ≡ is.Unit → ⊥) → IsPackageOf p numbers (parent p o) found → IsPackageOf p numbers o found
    package_up numbers o None more lt other h = λ u k. h u (unit_parent u o more lt other k)
    package_up numbers o (Some n) more lt other h = (h.0, unit_child h.0 o more lt h.1, h.2)

    pub package_above : (paths : Numbering) (known : List (Option ℕ)) (o : ℕ) (found : Option ℕ) → o < length p → is_unit (label p o) ≡ false → ArePackagesTo p paths known o → found ≡ slice_index_or known (parent p o) None → PackageAt p paths paths o found
    package_above paths known o found lt other h same = record { is = subst (λ f. IsPackageOf p (number_in paths) o f) (sym same) (by (cases_eq o 0)); kept = λ list item n e. e; counted = h.counted }
      where
        no_unit : label p o ≡ is.Unit → ⊥
        no_unit e = false≢true (sym other ∙ (unit_label_tells (label p o)).1 e)

        by : (o ≡ 0) ⊎ (o ≡ 0 → ⊥) → IsPackageOf p (number_in paths) o (slice_index_or known (parent p o) None)
        by (inl first) = let size = h.size in let none : slice_index_or known (parent p o) None ≡ None = get_or_past known (parent p o) None (omega arith) in
            subst (λ f. IsPackageOf p (number_in paths) o f) (sym none) (λ u k. none_at_root u (subst (λ x. InUnit p u x) first k))
        by (inr apart) = let up = local.tree.up o lt (omega arith) in package_up (number_in paths) o (slice_index_or known (parent p o) None) (omega arith) lt no_unit (h.each (parent p o) up)

    pub package_here : (old new : Numbering) (o n : ℕ) → is_unit (label p o) ≡ true → Numbered old new n (path_of p o) → PackageAt p old new o (Some n)
    package_here old new o n unit h = record {
      is = (o, record { unit = (unit_label_tells (label p o)).0 unit; from = omega arith; before = local.tree.nested o }, h.is);
      kept = h.kept;
      counted = h.counted;
    }

  pub packages_start : (paths : Numbering) (of_rows : List (Option ℕ)) → IsNumbering paths → of_rows ≡ [] → ArePackagesTo p paths of_rows 0
  packages_start paths of_rows counted none = record { counted = counted; size = ap length none; each = λ k lt. absurd (omega arith) }

  package_kept : (old new : Numbering) → Keeps old new → (o : ℕ) (found : Option ℕ) → IsPackageOf p (number_in old) o found → IsPackageOf p (number_in new) o found
  package_kept old new kept o None h = h
  package_kept old new kept o (Some n) h = (h.0, h.1, number_kept (number_in old) (number_in new) kept n (path_of p h.0) h.2)

  pub packages_more : (old new : Numbering) (of_rows more : List (Option ℕ)) (n : ℕ) (found : Option ℕ) → ArePackagesTo p old of_rows n → PackageAt p old new n found → more ≡ of_rows ++ found ∷ [] → ArePackagesTo p new more (n + 1)
  packages_more old new of_rows more n found h a pushed = record {
    counted = a.counted;
    size = let sum = length-append of_rows (found ∷ []) in let size = h.size in let same = ap length pushed in omega arith;
    each = λ k lt. subst (λ xs. IsPackageOf p (number_in new) k (slice_index_or xs k None)) (sym pushed) (⊎_elim
        (λ before. let size = h.size in subst (λ f. IsPackageOf p (number_in new) k f) (sym (get_or-append of_rows (found ∷ []) None k (omega arith))) (package_kept old new a.kept k (slice_index_or of_rows k None) (h.each k before)))
        (λ past. let size = h.size in let same : length of_rows ≡ k = omega arith in
        subst (λ x. IsPackageOf p (number_in new) x (slice_index_or (of_rows ++ found ∷ []) x None)) same
        (subst (λ f. IsPackageOf p (number_in new) (length of_rows) f) (sym (get_or-append_seam of_rows found [] None)) (subst (λ x. IsPackageOf p (number_in new) x found) (sym size) a.is))) (cases_lt k n));
  }

  pub packages_end : IsLocal p → (packages : code.Packages) (n : ℕ) → ArePackagesTo p packages.paths packages.of_rows.items n → n ≡ length p → ArePackages p packages
  packages_end local packages n h e = record {
    counted = h.counted;
    each = λ o. ⊎_elim (λ lt. h.each o lt) (λ past. let size = h.size in subst (λ f. IsPackageOf p (number_in packages.paths) o f) (sym (get_or_past packages.of_rows.items o None (omega arith)))
        (λ u k. let lt = unit_below p u k.unit in let le = local.tree.last u lt in let before = k.before in absurd (omega arith))) (cases_lt o n);
  }
