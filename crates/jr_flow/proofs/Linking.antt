-- Pairs as lists by their first numbers.
use Rattle.std.proofs.Common.{◌≡◌, ◌⊎◌, inl, inr, ⊎_elim, refl, sym, ◌∙◌, ap, subst, arith, ℕ, ◌+◌, ◌<◌, ◌≤◌, List, [], ◌∷◌, ◌++◌, length, length-append, Option, Some, None, slice_get, unwrap_or}
use Rattle.std.specs.List.{Contains}
use Rattle.std.specs.List.Sorted.{IsPermutation, IsNonDecreasingBy}
use Rattle.std.proofs.lemmas.Bool.{cases_lt}
use Rattle.std.proofs.lemmas.Option.{none-some, same_Some, slice_get_within, slice_get_past, slice_get-get_or, get_or_from_slice_get}
use Rattle.std.proofs.lemmas.List.Elements.{Contains-get_or}
use Rattle.std.proofs.lemmas.List.Sorted.{Contains-permutation, IsPermutation-sym}
use Rattle.jr_flow.specs.declared.links.Links.{Links}
use Rattle.jr_flow.specs.Linked.{firsts_in, items_in, first_of, HasItem, AreLinked, HaveBegun, AreFilled}
use Rattle.jr_flow.proofs.Gets.{front_get, get_pushed, get_last, got}

-- ---- elements of lists

pub get_of : {A : Type 0} (all : List A) (x : A) → Contains all x → (i : ℕ) × (slice_get all i ≡ Some x)
get_of all x h = (h.0, slice_get-get_or all h.0 x h.1 ∙ ap Some h.2)

pub among : {A : Type 0} (all : List A) (i : ℕ) (x : A) → slice_get all i ≡ Some x → Contains all x
among all i x e = subst (Contains all) (get_or_from_slice_get all i x x e) (Contains-get_or all i x (slice_get_within all i x e))

abbrev first_part : ℕ × ℕ → ℕ
first_part pair = pair.0

risen : (all : List (ℕ × ℕ)) (i j : ℕ) (x y : ℕ × ℕ) → IsNonDecreasingBy (λ pair. pair.0) all → i ≤ j → slice_get all i ≡ Some x → slice_get all j ≡ Some y → x.0 ≤ y.0
risen all i j x y rises le at_i at_j = let h = rises i j x le (slice_get_within all j y at_j) in
    let a = ap first_part (get_or_from_slice_get all i x x at_i) in let b = ap first_part (get_or_from_slice_get all j y x at_j) in omega (arith, h, a, b)

-- ---- lists that begin

pub none_begun : (old : List ℕ) (number item : ℕ) → HaveBegun old old number item
none_begun old number item = record { kept = λ k first e. e; only = λ k first e. inl e; longer = omega arith }

pub one_begun : (old mid new : List ℕ) (number item : ℕ) → HaveBegun old mid number item → length mid ≤ number → new ≡ mid ++ item ∷ [] → HaveBegun old new number item
one_begun old mid new number item h le is = record {
  kept = λ k first e. let at_k = h.kept k first e in ap (λ xs. slice_get xs k) is ∙ front_get mid (item ∷ []) k (slice_get_within mid k first at_k) ∙ at_k;
  only = λ k first e. ⊎_elim (λ early. h.only k first early) (λ last. let at_k = last.0 in let longer = h.longer in inr (sym last.1, omega (arith, at_k, longer), omega (arith, at_k, le))) (get_pushed mid item first k (sym (ap (λ xs. slice_get xs k) is) ∙ e));
  longer = let l = ap length is ∙ length-append mid (item ∷ []) in let longer = h.longer in omega (arith, l, longer);
}

-- ---- pairs that are added

pub none_filled : (all : List (ℕ × ℕ)) (links : Links) → firsts_in links ≡ [] → items_in links ≡ [] → AreFilled all 0 links
none_filled all links firsts items = record {
  count = ap length items;
  items = λ i x lt e. absurd (omega (arith, lt));
  within = λ k first e. absurd (none-some first (sym (ap (λ xs. slice_get xs k) firsts) ∙ e));
  before = λ k first i x f less lt e. absurd (omega (arith, lt));
  behind = λ k first i x f le lt e. absurd (omega (arith, lt));
  begun = λ i x lt e. absurd (omega (arith, lt));
  needed = λ k i x lt le e. let none = ap length firsts in absurd (omega (arith, lt, none));
}

module _ (all : List (ℕ × ℕ)) (n : ℕ) (pair : ℕ × ℕ) (old new : Links) (rises : IsNonDecreasingBy (λ pair. pair.0) all) (at_n : slice_get all n ≡ Some pair) (h : AreFilled all n old)
    (begun : HaveBegun (firsts_in old) (firsts_in new) pair.0 (length (items_in old))) (longer : pair.0 < length (firsts_in new)) (items : items_in new ≡ items_in old ++ pair.1 ∷ []) where
  split : (i : ℕ) (x : ℕ × ℕ) → i < n + 1 → slice_get all i ≡ Some x → (i < n) ⊎ ((i ≡ n) × (pair ≡ x))
  split i x lt e = ⊎_elim (λ less. inl less) (λ past. let same : i ≡ n = omega (arith, past, lt) in inr (same, same_Some pair x (sym at_n ∙ ap (slice_get all) (sym same) ∙ e))) (cases_lt i n)

  count : length (items_in old) ≡ n
  count = h.count

  pub pair_filled : AreFilled all (n + 1) new
  pair_filled = record {
    count = let l = ap length items ∙ length-append (items_in old) (pair.1 ∷ []) in omega (arith, l, count);
    items = λ i x lt e. ap (λ xs. slice_get xs i) items ∙ ⊎_elim
        (λ less. front_get (items_in old) (pair.1 ∷ []) i (omega (arith, less, count)) ∙ h.items i x less e)
        (λ last. let at_i : i ≡ length (items_in old) = last.0 ∙ sym count in ap (slice_get (items_in old ++ pair.1 ∷ [])) at_i ∙ get_last (items_in old) pair.1 ∙ ap (λ y. Some y.1) last.1)
        (split i x lt e);
    within = λ k first f. ⊎_elim
        (λ early. let le = h.within k first early in omega (arith, le))
        (λ late. let at_first = late.0 in omega (arith, at_first, count))
        (begun.only k first f);
    before = λ k first i x f less lt e. ⊎_elim
        (λ early. ⊎_elim
        (λ lower. h.before k first i x early less lower e)
        (λ last. let at_most = h.within k first early in let at_i = last.0 in absurd (omega (arith, less, at_i, at_most)))
        (split i x lt e))
        (λ late. ⊎_elim
        (λ lower. let less_2 = h.begun i x lower e in let le = late.1 in omega (arith, less_2, le))
        (λ last. let at_first = late.0 in let at_i = last.0 in absurd (omega (arith, less, at_first, count, at_i)))
        (split i x lt e))
        (begun.only k first f);
    behind = λ k first i x f le lt e. ⊎_elim
        (λ lower. ⊎_elim
        (λ early. h.behind k first i x early le lower e)
        (λ late. let at_first = late.0 in absurd (omega (arith, le, at_first, count, lower)))
        (begun.only k first f))
        (λ last. let is = ap first_part last.1 in ⊎_elim
        (λ early. let needed = h.needed k n pair (slice_get_within (firsts_in old) k first early) (omega arith) at_n in omega (arith, needed, is))
        (λ late. let most = late.2 in omega (arith, most, is))
        (begun.only k first f))
        (split i x lt e);
    begun = λ i x lt e. ⊎_elim
        (λ lower. let less = h.begun i x lower e in let more = begun.longer in omega (arith, less, more))
        (λ last. let is = ap first_part last.1 in omega (arith, longer, is))
        (split i x lt e);
    needed = λ k i x lt le e. let first = got (firsts_in new) k lt in let rose = risen all n i pair x rises (omega (arith, le)) at_n e in ⊎_elim
        (λ early. h.needed k i x (slice_get_within (firsts_in old) k first.0 early) (omega (arith, le)) e)
        (λ late. let most = late.2 in omega (arith, most, rose))
        (begun.only k first.0 first.1);
  }

-- ---- all are there

module _ (old sorted : List (ℕ × ℕ)) (links : Links) (moved : IsPermutation old sorted) (h : AreFilled sorted (length sorted) links) where
  abbrev first_by : Option ℕ → ℕ
  first_by o = unwrap_or o (length (items_in links))

  first_is : (k : ℕ) (o : Option ℕ) → slice_get (firsts_in links) k ≡ o → first_of links k ≡ first_by o
  first_is k o e = ap first_by e

  -- a list that did not begin is behind all numbers
  no_list : (k i : ℕ) (x : ℕ × ℕ) → slice_get (firsts_in links) k ≡ None → slice_get sorted i ≡ Some x → x.0 < k
  no_list k i x none e = let less = h.begun i x (slice_get_within sorted i x e) e in
      ⊎_elim (λ inside. let one = got (firsts_in links) k inside in absurd (none-some one.0 (sym none ∙ one.1))) (λ past. omega (arith, past, less)) (cases_lt k (length (firsts_in links)))

  lower : (k i : ℕ) (x : ℕ × ℕ) → slice_get sorted i ≡ Some x → i < first_of links k → x.0 < k
  lower k i x e less = by (slice_get (firsts_in links) k) refl
    where
      by : (o : Option ℕ) → slice_get (firsts_in links) k ≡ o → x.0 < k
      by None none = no_list k i x none e
      by (Some first) f = let is = first_is k (Some first) f in h.before k first i x f (omega (arith, less, is)) (slice_get_within sorted i x e) e

  higher : (k i : ℕ) (x : ℕ × ℕ) → slice_get sorted i ≡ Some x → first_of links k ≤ i → k ≤ x.0
  higher k i x e le = by (slice_get (firsts_in links) k) refl
    where
      by : (o : Option ℕ) → slice_get (firsts_in links) k ≡ o → k ≤ x.0
      by None none = let is = first_is k None none in let lt = slice_get_within sorted i x e in let count = h.count in absurd (omega (arith, le, is, lt, count))
      by (Some first) f = let is = first_is k (Some first) f in h.behind k first i x f (omega (arith, le, is)) (slice_get_within sorted i x e) e

  stands : (k x : ℕ) → Contains old (k, x) → HasItem links k x
  stands k x c = let at = get_of sorted (k, x) (Contains-permutation old sorted (k, x) moved c) in record {
    nth = at.0;
    from = ⊎_elim (λ less. let no = lower k at.0 (k, x) at.1 less in absurd (omega (arith, no))) (λ le. le) (cases_lt at.0 (first_of links k));
    to = ⊎_elim (λ less. less) (λ le. let no = higher (k + 1) at.0 (k, x) at.1 le in absurd (omega (arith, no))) (cases_lt at.0 (first_of links (k + 1)));
    stands = h.items at.0 (k, x) (slice_get_within sorted at.0 (k, x) at.1) at.1;
  }

  found : (k x : ℕ) → HasItem links k x → Contains old (k, x)
  found k x item =
      let lt = slice_get_within (items_in links) item.nth x item.stands in let count = h.count in
      let pair = got sorted item.nth (omega (arith, lt, count)) in
      let least = higher k item.nth pair.0 pair.1 item.from in
      let most = lower (k + 1) item.nth pair.0 pair.1 item.to in
      let first : pair.0.0 ≡ k = omega (arith, least, most) in
      let second : pair.0.1 ≡ x = same_Some pair.0.1 x (sym (h.items item.nth pair.0 (slice_get_within sorted item.nth pair.0 pair.1) pair.1) ∙ item.stands) in
      subst (λ z. Contains old (z, x)) first (subst (λ z. Contains old (pair.0.0, z)) second (Contains-permutation sorted old pair.0 (IsPermutation-sym old sorted moved) (among sorted item.nth pair.0 pair.1)))

  pub all_linked : AreLinked old links
  all_linked = record { only = found; every = stands }
