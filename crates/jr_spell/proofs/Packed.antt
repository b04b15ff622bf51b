-- The packages of units are known, each by a row that spells its name.
use Rattle.std.proofs.Common.{◌≡◌, ◌⊎◌, refl, sym, ◌∙◌, ap, ap₂, subst, inl, inr, ⊎_elim, arith, append_assoc, ℕ, zero, suc, ◌+◌, ◌-◌, ◌<◌, ◌≤◌, Bool, true, false, ◌&&◌, cond, List, [], ◌∷◌, ◌++◌, length, Option, Some, None, nat_eq}
use Rattle.std.specs.Prelude.{bytes_eq, unwrap_or}
use Rattle.std.specs.HashMap.{IsEmpty}
use Rattle.std.specs.Map.{lookup}
use Rattle.std.proofs.lemmas.Bool.{and_parts, false≢true, cases_eq}
use Rattle.std.proofs.lemmas.Bool.Decides.{Decides-eqb}
use Rattle.std.proofs.lemmas.Option.{none-some, same_Some}
use Rattle.std.proofs.lemmas.Slice.Eq.{bytes_eq-Decides}
use Rattle.jr_base.specs.declared.text.Text.{Text}
use Rattle.jr_tree.specs.declared.label.Label.{Label}
use Rattle.jr_tree.specs.declared.label.Label.TheVariants as is
use Rattle.jr_tree.specs.declared.label.NameKind.{NameKind}
use Rattle.jr_tree.specs.declared.label.NamePlace.TheVariants as place
use Rattle.jr_tree.specs.Rows.{Rows, label, name, parent, end}
use Rattle.jr_tree.specs.Exprs.{left_kind}
use Rattle.jr_tree.specs.Tree.{IsTree}
use Rattle.jr_tree.specs.Below.{Under, IsOtherName, IsQualifierOf}
use Rattle.jr_tree.specs.Local.{StartsAt, IsLocal}
use Rattle.jr_defs.specs.Formed.{IsNameLabel}
use Rattle.jr_defs.specs.Packages.{identifiers, spelled, package_by, package_of}
use Rattle.jr_plain.specs.Search.{first_below}
use Rattle.jr_plain.specs.Enclosing.{is_unit}
use Rattle.jr_plain.proofs.Bounds.{bounded, unit_below}
use Rattle.jr_plain.proofs.Enclosed.{unit_label_tells}
use Rattle.jr_plain.proofs.Searches.{finds_first}
use Rattle.jr_places.specs.Chains.{same_pair}
use Rattle.jr_places.specs.Names.{name_row}
use Rattle.jr_places.specs.Packages.{PackagesAreNamed, is_package}
use Rattle.jr_places.proofs.Packing.{name_tells}
use Rattle.jr_lookup.proofs.Looking.{named_first}
use Rattle.jr_spell.specs.declared.paths.Chain.{Chain}
use Rattle.jr_spell.specs.declared.paths.Paths.{Paths}
use Rattle.jr_spell.specs.Packaging.{IsNumber, HoldsName, holds_name, chain_of, package_in, inside, Reaches, IsPath, ArePaths, spelled_before, IsEntry, AreEntries, KnowNone, KeepsPaths, Enters, AddsPackage, texts_from, EntersTo, ArePathsTo}

-- ---- the table

pub none_known : (paths : Paths) → IsEmpty paths.rows → KnowNone paths
none_known paths empty over n = ap (lookup (λ q. same_pair (over, n) q)) empty

pub enters_known : (paths : Paths) (over n row known : ℕ) → package_in paths over n ≡ Some known → Enters paths paths over n row known
enters_known paths over n row known e = record { has = e; kept = λ o m q f. f; was = λ o m q f. inr f }

module _ (old new : Paths) (over n row : ℕ) (fresh : package_in old over n ≡ None) (updates : (o m : ℕ) → package_in new o m ≡ cond (same_pair (over, n) (o, m)) (Some row) (package_in old o m)) where
  was : (o m q : ℕ) → package_in new o m ≡ Some q → ((o ≡ over) × (m ≡ n) × (q ≡ row)) ⊎ (package_in old o m ≡ Some q)
  was o m q e = by (same_pair (over, n) (o, m)) refl (sym (updates o m) ∙ e)
    where
      by : (b : Bool) → same_pair (over, n) (o, m) ≡ b → cond b (Some row) (package_in old o m) ≡ Some q → ((o ≡ over) × (m ≡ n) × (q ≡ row)) ⊎ (package_in old o m ≡ Some q)
      by true same e = let both = and_parts (nat_eq over o) (nat_eq n m) same in inl (sym ((Decides-eqb over o).0 both.0), sym ((Decides-eqb n m).0 both.1), sym (same_Some row q e))
      by false same e = inr e

  kept : KeepsPaths old new
  kept o m q e = updates o m ∙ by (same_pair (over, n) (o, m)) refl
    where
      by : (b : Bool) → same_pair (over, n) (o, m) ≡ b → cond b (Some row) (package_in old o m) ≡ Some q
      by true same = let both = and_parts (nat_eq over o) (nat_eq n m) same in
          absurd (none-some q (sym fresh ∙ ap₂ (package_in old) ((Decides-eqb over o).0 both.0) ((Decides-eqb n m).0 both.1) ∙ e))
      by false same = e

  pub enters_next : Enters old new over n row row
  enters_next = record {
    has = updates over n ∙ ap (λ b. cond b (Some row) (package_in old over n)) (ap₂ (λ a b. a && b) ((Decides-eqb over over).1 refl) ((Decides-eqb n n).1 refl));
    kept = kept;
    was = was;
  }

-- ---- lists with one last item

abbrev first_text : Text → List Text → Text
first_text z [] = z
first_text z (x ∷ xs) = x

abbrev rest_texts : List Text → List Text
rest_texts [] = []
rest_texts (x ∷ xs) = xs

no_last : (xs : List Text) (x : Text) → [] ≡ xs ++ x ∷ [] → ⊥
no_last [] x e = absurd cc
no_last (y ∷ xs) x e = absurd cc

last_same : (xs ys : List Text) (x y : Text) → xs ++ x ∷ [] ≡ ys ++ y ∷ [] → (xs ≡ ys) × (x ≡ y)
last_same [] [] x y e = (refl, ap (λ l. first_text x l) e)
last_same [] (b ∷ ys) x y e = absurd (no_last ys y (ap (λ l. rest_texts l) e))
last_same (a ∷ xs) [] x y e = absurd (no_last xs x (sym (ap (λ l. rest_texts l) e)))
last_same (a ∷ xs) (b ∷ ys) x y e = let more = last_same xs ys x y (ap (λ l. rest_texts l) e) in (ap₂ (λ z zs. z ∷ zs) (ap (λ l. first_text a l) e) more.0, more.1)

-- what a list begins with is all of it, or stands before its last item
cut : (q : List Text) (x : Text) (a b : List Text) → q ++ x ∷ [] ≡ a ++ b → (a ≡ q ++ x ∷ []) ⊎ ((c : List Text) × (q ≡ a ++ c))
cut q x [] b e = inr (q, refl)
cut [] x (y ∷ a) b e = inl (nothing a b x y (ap (λ l. rest_texts l) e) (ap (λ l. first_text x l) e))
  where
    nothing : (a b : List Text) (x y : Text) → [] ≡ a ++ b → x ≡ y → y ∷ a ≡ x ∷ []
    nothing [] b x y none same = ap (λ z. z ∷ []) (sym same)
    nothing (z ∷ a) b x y none same = absurd cc
cut (z ∷ q) x (y ∷ a) b e = let same = ap (λ l. first_text z l) e in
    ⊎_elim (λ whole. inl (ap₂ (λ u us. u ∷ us) (sym same) whole)) (λ part. inr (part.0, ap₂ (λ u us. u ∷ us) same part.1)) (cut q x a b (ap (λ l. rest_texts l) e))

module _ (p : Rows) where
  -- ---- numbers of names

  row_within : (n : ℕ) → n < length p → name_row p n < length p
  row_within n lt = by (first_below n (λ k. bytes_eq (name p n) (name p k))) refl
    where
      by : (o : Option ℕ) → first_below n (λ k. bytes_eq (name p n) (name p k)) ≡ o → unwrap_or o n < length p
      by (Some k) e = let below = ((finds_first (λ k. bytes_eq (name p n) (name p k)) (λ k. name p n ≡ name p k) (λ k. bytes_eq-Decides (name p n) (name p k)) n k).0 e).0 in omega arith
      by None e = lt

  pub is_number : (n : ℕ) → n < length p → IsNumber p (name_row p n)
  is_number n lt = record { first = (Decides-eqb (name_row p (name_row p n)) (name_row p n)).0 ((name_tells p (name_row p n) n).1 (named_first p n)); there = row_within n lt }

  pub one_number : (n m : ℕ) → IsNumber p n → IsNumber p m → name p n ≡ name p m → n ≡ m
  one_number n m h k e = sym h.first ∙ (Decides-eqb (name_row p n) (name_row p m)).0 ((name_tells p n m).1 e) ∙ k.first

  -- ---- names as texts

  identifiers_are : (n k : ℕ) → identifiers p n k ≡ texts_from p n (suc k)
  identifiers_are n zero = refl
  identifiers_are n (suc k) = ap (λ xs. xs ++ name p n ∷ []) (identifiers_are (n + 1) k)

  spelled_is : IsTree p → (n : ℕ) → spelled p n ≡ texts_from p n (end p n - n)
  spelled_is tree n = let lt = tree.nested n in let e : suc (end p n - (n + 1)) ≡ end p n - n = omega arith in identifiers_are n (end p n - (n + 1)) ∙ ap (texts_from p n) e

  package_is : (l : Label) (u : ℕ) → package_by l p u ≡ cond (is_package l) (spelled p (u + 2)) []
  package_is is.Package u = refl
  package_is _ u = refl

  declared_package : (l : Label) → is_package l ≡ true → l ≡ is.Package
  declared_package is.Package e = refl
  declared_package _ e = absurd (false≢true e)

  abbrev end_by : ℕ → Bool → ℕ
  end_by u b = cond b (end p (u + 2)) (u + 2)

  pub chain_rises : IsTree p → (u : ℕ) → u + 2 ≤ (chain_of p u).end
  chain_rises tree u = by (is_package (label p (u + 1)))
    where
      by : (b : Bool) → u + 2 ≤ cond b (end p (u + 2)) (u + 2)
      by true = let lt = tree.nested (u + 2) in omega arith
      by false = omega arith

  package_texts : IsTree p → (u : ℕ) → package_of p u ≡ texts_from p (u + 2) ((chain_of p u).end - (u + 2))
  package_texts tree u = package_is (label p (u + 1)) u ∙ by (is_package (label p (u + 1)))
    where
      by : (b : Bool) → cond b (spelled p (u + 2)) [] ≡ texts_from p (u + 2) (cond b (end p (u + 2)) (u + 2) - (u + 2))
      by true = spelled_is tree (u + 2)
      by false = let e : 0 ≡ u + 2 - (u + 2) = omega arith in ap (texts_from p (u + 2)) e

  -- ---- the rows of a name

  name_before : (k : NameKind) (l : Label) → IsQualifierOf k l → IsNameLabel l
  name_before k (is.Name j place.Qualifier b) h = tt
  name_before k _ h = absurd h

  other_name : (l : Label) → IsOtherName l → IsNameLabel l
  other_name (is.Name k place.Other b) h = tt
  other_name _ h = absurd h

  name_goes_on : (n : ℕ) (l : Label) → IsNameLabel l → StartsAt p n l → (end p n ≡ n + 1) ⊎ ((end p (n + 1) ≡ end p n) × IsNameLabel (label p (n + 1)))
  name_goes_on n (is.Name k at true) h s = inr (s.0.whole, name_before (left_kind k) (label p (n + 1)) s.1)
  name_goes_on n (is.Name k at false) h s = inl s
  name_goes_on n _ h s = absurd h

  module _ (local : IsLocal p) where
    not_first : (n : ℕ) → IsNameLabel (label p n) → n ≡ 0 → ⊥
    not_first n h none = subst IsNameLabel (ap (label p) none ∙ local.program) h

    goes_on : (n : ℕ) → IsNameLabel (label p n) → (end p n ≡ n + 1) ⊎ ((end p (n + 1) ≡ end p n) × IsNameLabel (label p (n + 1)))
    goes_on n h = name_goes_on n (label p n) h (local.starts n (⊎_elim (λ none. absurd (not_first n h none)) (λ apart. omega arith) (cases_eq n 0)) (bounded IsNameLabel (λ none. none) p n h))

    stays : (k n : ℕ) → IsNameLabel (label p n) → n + k < end p n → end p (n + k) ≡ end p n
    stays zero n h lt = let e : n + 0 ≡ n = omega arith in ap (end p) e
    stays (suc k) n h lt = ⊎_elim (λ last. absurd (omega arith))
        (λ more. let e : n + suc k ≡ n + 1 + k = omega arith in let same = more.0 in ap (end p) e ∙ stays k (n + 1) more.1 (omega arith) ∙ more.0) (goes_on n h)

    module _ (named : PackagesAreNamed p) (u : ℕ) (hold : HoldsName p u) where
      first_name : label p (u + 1) ≡ is.Package → IsNameLabel (label p (u + 2))
      first_name declared = let below = named (u + 1) declared in
          other_name (label p (u + 2)) (subst (λ l. Under l (label p (u + 2))) (ap (label p) (hold declared) ∙ declared) (local.under (u + 2) (omega arith) (omega arith)))

      name_ends : label p (u + 1) ≡ is.Package → (r : ℕ) → u + 2 ≤ r → r < end p (u + 2) → end p r ≡ end p (u + 2)
      name_ends declared r le lt = let e : u + 2 + (r - (u + 2)) ≡ r = omega arith in subst (λ k. end p k ≡ end p (u + 2)) e (stays (r - (u + 2)) (u + 2) (first_name declared) (omega arith))

      chain_ends : (r : ℕ) → u + 2 ≤ r → r < (chain_of p u).end → (end p r ≡ (chain_of p u).end) × (r < length p)
      chain_ends r le lt = by (is_package (label p (u + 1))) refl lt
        where
          by : (b : Bool) → is_package (label p (u + 1)) ≡ b → r < cond b (end p (u + 2)) (u + 2) → (end p r ≡ cond b (end p (u + 2)) (u + 2)) × (r < length p)
          by true e lt = let declared = declared_package (label p (u + 1)) e in let below = named (u + 1) declared in let last = local.tree.last (u + 2) (omega arith) in (name_ends declared r le lt, omega arith)
          by false e lt = absurd (omega arith)

      -- a row spells the identifiers up to it
      chain_spells : (r : ℕ) → u + 2 ≤ r → r < (chain_of p u).end → spelled p r ≡ texts_from p r ((chain_of p u).end - r)
      chain_spells r le lt = spelled_is local.tree r ∙ ap (λ e. texts_from p r (e - r)) (chain_ends r le lt).0

      pub chain_row : (nth row : ℕ) → nth < (chain_of p u).end - (u + 2) → row ≡ (chain_of p u).end - nth - 1 → row < length p
      chain_row nth row lt e = (chain_ends row (omega arith) (omega arith)).1

  -- ---- what is reached

  spelled_row : (r : ℕ) → 0 < r → spelled_before p r ≡ spelled p r
  spelled_row zero lt = absurd (omega arith)
  spelled_row (suc r) lt = refl

  module _ (paths : Paths) where
    pub reaches_spelled : AreEntries p paths → {r : ℕ} {path : List Text} → Reaches p paths r path → path ≡ spelled_before p r
    reaches_spelled entries Reaches.start = refl
    reaches_spelled entries (Reaches.onward {over = over} {n = n} {r = r} {path = path} h number e) = let it = entries over n r e in
        ap (λ xs. xs ++ name p n ∷ []) (reaches_spelled entries h) ∙ sym it.spells ∙ sym (spelled_row r it.positive)

    abbrev Last : ℕ → List Text → Text → Type 0
    Last r path x = (over n : ℕ) × Reaches p paths over path × IsNumber p n × (name p n ≡ x) × (package_in paths over n ≡ Some r)

    last_step : {r : ℕ} {all : List Text} (path : List Text) (x : Text) → Reaches p paths r all → all ≡ path ++ x ∷ [] → Last r path x
    last_step path x Reaches.start e = absurd (no_last path x e)
    last_step path x (Reaches.onward {over = over} {n = n} {path = before} h number is) e = let same = last_same before path (name p n) x e in
        (over, n, subst (Reaches p paths over) same.0 h, number, same.1, is)

    one_row : {r : ℕ} {path : List Text} (q : ℕ) → Reaches p paths r path → Reaches p paths q path → r ≡ q
    one_row {r} q Reaches.start k = none k refl
      where
        none : {path : List Text} {q : ℕ} → Reaches p paths q path → path ≡ [] → 0 ≡ q
        none Reaches.start e = refl
        none (Reaches.onward {n = n} {path = before} k number is) e = absurd (no_last before (name p n) (sym e))
    one_row q (Reaches.onward {over = over} {n = n} {r = r} {path = path} h number is) k = let l = last_step path (name p n) k refl in
        same_Some r q (sym is ∙ ap₂ (package_in paths) (one_row l.0 h l.2) (one_number n l.1 number l.3 (sym l.4)) ∙ l.5)

    front : {r : ℕ} {all : List Text} → Reaches p paths r all → (a b : List Text) → all ≡ a ++ b → (m : ℕ) × Reaches p paths m a
    front Reaches.start [] b e = (0, Reaches.start)
    front Reaches.start (x ∷ a) b e = absurd cc
    front (Reaches.onward {n = n} {r = r} {path = path} h number is) a b e =
        ⊎_elim (λ whole. (r, subst (Reaches p paths r) (sym whole) (Reaches.onward h number is))) (λ part. front h a part.0 part.1) (cut path (name p n) a b e)

    module _ (all : ArePathsTo p paths (length p)) where
      next_path : (over n : ℕ) (path : List Text) → Reaches p paths over path → IsNumber p n → IsPath p paths (package_in paths over n) (path ++ name p n ∷ [])
      next_path over n path h number = by (package_in paths over n) refl
        where
          by : (o : Option ℕ) → package_in paths over n ≡ o → IsPath p paths o (path ++ name p n ∷ [])
          by (Some r) e = let it = all.entries over n r e in IsPath.known (Reaches.onward h number e) it.there (it.spells ∙ ap (λ xs. xs ++ name p n ∷ []) (sym (reaches_spelled all.entries h)))
          by None e = IsPath.unknown (λ u rest unit begins. let whole = all.reached u (unit_below p u unit) unit in
              let part = front whole.1 (path ++ name p n ∷ []) rest begins in let l = last_step path (name p n) part.1 refl in
              none-some part.0 (sym e ∙ ap₂ (package_in paths) (one_row l.0 h l.2) (one_number n l.1 number l.3 (sym l.4)) ∙ l.5))

      pub all_paths : ArePaths p paths
      all_paths = record { first = λ n number. next_path 0 n [] Reaches.start number; next = λ at path n is number. by at path n is number }
        where
          by : (at : Option ℕ) (path : List Text) (n : ℕ) → IsPath p paths at path → IsNumber p n → IsPath p paths (inside paths at n) (path ++ name p n ∷ [])
          by _ path n (IsPath.known {r = r} h lt is) number = next_path r n path h number
          by _ path n (IsPath.unknown none) number = IsPath.unknown (λ u rest unit begins. none u (name p n ∷ rest) unit (begins ∙ append_assoc path (name p n ∷ []) rest))

  -- ---- tables that grow

  pub reaches_kept : (old new : Paths) → KeepsPaths old new → {r : ℕ} {path : List Text} → Reaches p old r path → Reaches p new r path
  reaches_kept old new keeps Reaches.start = Reaches.start
  reaches_kept old new keeps (Reaches.onward {over = over} {n = n} {r = r} h number e) = Reaches.onward (reaches_kept old new keeps h) number (keeps over n r e)

  pub entering_start : (paths : Paths) (chain : Chain) → AreEntries p paths → EntersTo p paths paths chain 0 0
  entering_start paths chain entries = record { entries = entries; kept = λ o m q e. e; reached = Reaches.start }

  module _ (local : IsLocal p) (named : PackagesAreNamed p) (u : ℕ) (hold : HoldsName p u) (first old new : Paths) (nth over row item r : ℕ) where
    pub entering_next : EntersTo p first old (chain_of p u) nth over → nth < (chain_of p u).end - (u + 2) → row ≡ (chain_of p u).end - nth - 1 → item ≡ name_row p row → Enters old new over item row r
        → EntersTo p first new (chain_of p u) (nth + 1) r
    entering_next h lt row_is item_is enters = record {
      entries = entries;
      kept = λ o m q e. enters.kept o m q (h.kept o m q e);
      reached = subst (Reaches p new r) texts (Reaches.onward (reaches_kept old new enters.kept h.reached) number enters.has);
    }
      where
        stop : ℕ
        stop = (chain_of p u).end

        low : u + 2 ≤ row
        low = omega arith

        high : row < (chain_of p u).end
        high = omega arith

        number : IsNumber p item
        number = subst (IsNumber p) (sym item_is) (is_number row (chain_ends local named u hold row low high).1)

        same : name p item ≡ name p row
        same = ap (name p) item_is ∙ named_first p row

        after : (chain_of p u).end - nth ≡ row + 1
        after = omega arith

        texts : texts_from p ((chain_of p u).end - nth) nth ++ name p item ∷ [] ≡ texts_from p ((chain_of p u).end - (nth + 1)) (nth + 1)
        texts = let here : row ≡ (chain_of p u).end - (nth + 1) = omega arith in let size : suc nth ≡ nth + 1 = omega arith in
            ap₂ (λ k x. texts_from p k nth ++ x ∷ []) after same ∙ ap₂ (λ k j. texts_from p k j) here size

        spells : spelled p row ≡ spelled_before p over ++ name p item ∷ []
        spells = let size : (chain_of p u).end - row ≡ suc nth = omega arith in
            chain_spells local named u hold row low high ∙ ap (texts_from p row) size ∙ ap₂ (λ xs x. xs ++ x ∷ []) (ap (λ k. texts_from p k nth) (sym after) ∙ reaches_spelled old h.entries h.reached) (sym same)

        entries : AreEntries p new
        entries o m q e = ⊎_elim
            (λ k. subst (λ q. IsEntry p o m q) (sym k.2) (subst (λ m. IsEntry p o m row) (sym k.1) (subst (λ o. IsEntry p o item row) (sym k.0)
            (record { positive = omega arith; there = (chain_ends local named u hold row low high).1; spells = spells }))))
            (λ k. h.entries o m q k) (enters.was o m q e)

  pub entering_end : IsTree p → (u : ℕ) (first new : Paths) (nth over : ℕ) → nth ≡ (chain_of p u).end - (u + 2) → EntersTo p first new (chain_of p u) nth over → AddsPackage p first new u
  entering_end tree u first new nth over all h = let rises = chain_rises tree u in let back : (chain_of p u).end - nth ≡ u + 2 = omega arith in record {
    entries = h.entries;
    kept = h.kept;
    row = over;
    reached = subst (Reaches p new over) (ap₂ (λ k j. texts_from p k j) back all ∙ sym (package_texts tree u)) h.reached;
  }

  -- ---- row by row

  pub none_added : (paths : Paths) → KnowNone paths → ArePathsTo p paths 0
  none_added paths none = record { entries = λ o m q e. absurd (none-some q (sym (none o m) ∙ e)); reached = λ u lt unit. absurd (omega arith) }

  pub unit_added : (old new : Paths) (n : ℕ) → ArePathsTo p old n → AddsPackage p old new n → ArePathsTo p new (n + 1)
  unit_added old new n h adds = record {
    entries = adds.entries;
    reached = λ u lt unit. ⊎_elim (λ same. subst (λ v. (r : ℕ) × Reaches p new r (package_of p v)) (sym same) (adds.row, adds.reached))
        (λ apart. let was = h.reached u (omega arith) unit in (was.0, reaches_kept old new adds.kept was.1)) (cases_eq u n);
  }

  pub other_added : (paths : Paths) (n : ℕ) (b : Bool) → b ≡ is_unit (label p n) → b ≡ false → ArePathsTo p paths n → ArePathsTo p paths (n + 1)
  other_added paths n b told fails h = record {
    entries = h.entries;
    reached = λ u lt unit. ⊎_elim (λ same. absurd (false≢true (sym (sym told ∙ fails) ∙ (unit_label_tells (label p n)).1 (ap (label p) (sym same) ∙ unit)))) (λ apart. h.reached u (omega arith) unit) (cases_eq u n);
  }

  -- what is tested of a unit
  pub holds : (u : ℕ) (b : Bool) → b ≡ holds_name p u → b ≡ true → HoldsName p u
  holds u b told passes declared = (Decides-eqb (parent p (u + 2)) (u + 1)).0
      (sym (ap (λ l. cond (is_package l) (nat_eq (parent p (u + 2)) (u + 1)) true) declared) ∙ sym told ∙ passes)

  pub all_added : (paths : Paths) (n : ℕ) → n ≡ length p → ArePathsTo p paths n → ArePaths p paths
  all_added paths n whole h = all_paths paths (subst (ArePathsTo p paths) whole h)
