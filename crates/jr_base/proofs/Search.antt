-- What a binary search finds among files whose paths rise.
use Rattle.std.proofs.Common.{◌≡◌, ℕ, ◌<◌, ◌≤◌, List, [], ◌∷◌, length, get_or, Result, Ok, Err, refl, sym, ap, ◌∙◌, arith}
use Rattle.std.specs.Prelude.{Vec, IsTrue}
use Rattle.std.specs.Ordering.{ordering_index, ordering_reverse}
use Rattle.std.specs.Cmp.Lexicographic.{nat_list_cmp_total}
use Rattle.std.specs.List.{HoldsAt}
use Rattle.std.specs.List.Sorted.{IsSearchInRange, IsBinarySearchResult, IsNonDecreasingBy}
use Rattle.std.specs.declared.cmp.Ordering.{Ordering}
use Rattle.std.specs.declared.cmp.Ordering.TheVariants.{Less, Equal, Greater}
use Rattle.std.specs.declared.alloc.Global.{Global}
use Rattle.std.specs.FinMap.Entries.{is_sorted}
use Rattle.std.proofs.lemmas.List.{get_or-map}
use Rattle.jr_base.specs.Files.{plain}
use Rattle.jr_base.specs.Slots.{IsSlot, path_at}
use Rattle.jr_base.proofs.Rising.{rises}
use Rattle.jr_base.proofs.Entries.{R, T-from_IsTrue, plain-length}

flip : (x y : List ℕ) (o : Ordering) → R x y ≡ o → R y x ≡ ordering_reverse o
flip x y o is = nat_list_cmp_total.antisymm y x ∙ ap ordering_reverse is

-- a path below one that is not above another is below that one
less_index : (x y path : List ℕ) (o : Ordering) → R x y ≡ Less → R y path ≡ o → ordering_index (R x path) ≤ ordering_index o
less_index x y path Less less is = rw (nat_list_cmp_total.trans x y path less is) (omega arith)
less_index x y path Equal less is =
    rw (flip path x Greater (sym (nat_list_cmp_total.congr y path x is) ∙ flip x y Less less)) (omega arith)
less_index x y path Greater less is = elim (R x path) as (λ o. ordering_index o ≤ 2) [ Less ↦ omega arith | Equal ↦ omega arith | Greater ↦ omega arith ]

-- how a file's path compares with the path
abbrev pub compared : List ℕ → List ℕ × Vec ℕ Global → Ordering
compared path e = R e.0 path

some_entry : (es : List (List ℕ × Vec ℕ Global)) → 0 < length es → List ℕ × Vec ℕ Global
some_entry [] inside = absurd (omega arith)
some_entry (e ∷ es) inside = e

module _ (es : List (List ℕ × Vec ℕ Global)) (path : List ℕ) (sorted : IsTrue (is_sorted R (plain es))) where
  at_plain : (i : ℕ) (d : List ℕ × Vec ℕ Global) → i < length es → (get_or es i d).0 ≡ path_at (plain es) i
  at_plain i d inside = sym (ap (λ (p : List ℕ × List ℕ). p.0) (get_or-map (λ e. (e.0, e.1.items)) es i d ([], []) inside))

  rising : (i j : ℕ) → i < j → j < length es → R (path_at (plain es) i) (path_at (plain es) j) ≡ Less
  rising i j lt inside = rises (plain es) i j lt (omega (arith, plain-length es)) (T-from_IsTrue _ sorted)

  -- the comparisons with the path rise along the list, as a binary search asks
  comparisons_rise : IsNonDecreasingBy (λ e. ordering_index (compared path e)) es
  comparisons_rise i j d le inside =
      let rank = λ (k : ℕ). ordering_index (compared path (get_or es k d)) in
      let up : i < j → rank i ≤ rank j = λ lt.
      less_index (get_or es i d).0 (get_or es j d).0 path _ (rw (at_plain i d (omega arith), at_plain j d inside) (rising i j lt inside)) refl in
      let level : i ≡ j → rank i ≡ rank j = λ same. ap rank same in
      grind (arith, up, level)

  -- the path that stands at an index, where the comparison there is known
  turned : (i : ℕ) (o : Ordering) → i < length es → HoldsAt (λ e. compared path e ≡ o) es i → R path (path_at (plain es) i) ≡ ordering_reverse o
  turned i o inside is =
      let d = some_entry es (omega arith) in
      flip (path_at (plain es) i) path o (ap (λ p. R p path) (sym (at_plain i d inside)) ∙ is d)

  pub found_slot : (r : Result ℕ ℕ) → IsSearchInRange r (length es) → IsBinarySearchResult (compared path) es r → IsSlot path (plain es) r
  found_slot (Ok i) inside equal =
      let here = turned i Equal inside equal in (
        omega (arith, plain-length es),
        here,
        (λ k lt. nat_list_cmp_total.congr path (path_at (plain es) i) (path_at (plain es) k) here ∙ flip (path_at (plain es) k) (path_at (plain es) i) Less (rising k i lt inside)),
      )
  found_slot (Err i) inside parted = (
    omega (arith, plain-length es),
    (λ lt. turned i Greater (omega (arith, plain-length es)) (λ d. (parted comparisons_rise).1 i d (omega arith) (omega (arith, plain-length es)))),
    (λ k lt. turned k Less (omega arith) (λ d. (parted comparisons_rise).0 k d (omega arith) lt)),
  )
