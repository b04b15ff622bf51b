-- The pairs of two lists of files in the order of their paths.
use Rattle.std.proofs.Common.{◌≡◌, ◌≢◌, List, [], ◌∷◌, ℕ, Bool, true, false, cond, map, filter, not, T, ◌&&◌, refl, sym, ◌∙◌, ap, subst, Some, None}
use Rattle.std.specs.List.{AllByRecursion}
use Rattle.std.specs.Ordering.{nat_cmp, is_eq, is_lt, ordering_reverse}
use Rattle.std.specs.Cmp.Lexicographic.{slice_cmp, nat_list_cmp_total}
use Rattle.std.specs.declared.cmp.Ordering.{Ordering}
use Rattle.std.specs.declared.cmp.Ordering.TheVariants.{Less, Equal, Greater}
use Rattle.std.proofs.lemmas.Map.Text.{is_eq-slice_cmp}
use Rattle.std.proofs.lemmas.Slice.Eq.{bytes_eq-Decides}
use Rattle.std.specs.FinMap.Entries.{by_order, is_sorted, below_all}
use Rattle.jr_commit.specs.Entries.{PlainEntry, names_of}
use Rattle.jr_commit.specs.Journal.{IsRising}
use Rattle.jr_commit.specs.Differences.{File, Pair, beside, pairs, same_side, entry_of, changes}

abbrev pub R : List ℕ → List ℕ → Ordering
R = slice_cmp nat_cmp

abbrev pub keys_of : List File → List (List ℕ)
keys_of fs = map (λ f. f.0) fs

abbrev pub pair_paths : List Pair → List (List ℕ)
pair_paths ps = map (λ p. p.0) ps

abbrev pub Below : List ℕ → List (List ℕ) → Type 0
Below x ps = AllByRecursion (λ p. R x p ≡ Less) ps

-- each path is below all after it
abbrev pub Rises : List (List ℕ) → Type 0
Rises [] = Unit {0}
Rises (p ∷ ps) = Below p ps × Rises ps

pub below_trans : (x y : List ℕ) (ps : List (List ℕ)) → R x y ≡ Less → Below y ps → Below x ps
below_trans x y [] less below = tt
below_trans x y (p ∷ ps) less below = (nat_list_cmp_total.trans x y p less below.0, below_trans x y ps less below.1)

pub tied : (x y : List ℕ) → R x y ≡ Equal → x ≡ y
tied x y same = (bytes_eq-Decides x y).0 (sym (is_eq-slice_cmp x y) ∙ ap is_eq same)

pub flipped : (x y : List ℕ) → R x y ≡ Greater → R y x ≡ Less
flipped x y greater = nat_list_cmp_total.antisymm y x ∙ ap ordering_reverse greater

pub less_differs : (x y : List ℕ) → R x y ≡ Less → x ≢ y
less_differs x y less same =
    let equal : is_eq (R x y) ≡ true = is_eq-slice_cmp x y ∙ (bytes_eq-Decides x y).1 same in
    let lies : false ≡ true = ap is_eq (sym less) ∙ equal in
    cc lies

-- ---- what holds of each path of either list holds of each pair's

module _ (P : List ℕ → Type 0) where
  all_news : (news : List File) → AllByRecursion P (keys_of news) → AllByRecursion P (pair_paths (pairs [] news))
  all_news [] all = tt
  all_news (n ∷ news) all = (all.0, all_news news all.1)

  pub all_beside : (o : File) (rest : List File → List Pair) → P o.0 → ((ns : List File) → AllByRecursion P (keys_of ns) → AllByRecursion P (pair_paths (rest ns)))
      → (news : List File) → AllByRecursion P (keys_of news) → AllByRecursion P (pair_paths (beside o rest news))
  all_beside o rest here others [] all = (here, others [] tt)
  all_beside o rest here others (n ∷ news) all =
      elim (R o.0 n.0) as (λ r. AllByRecursion P (pair_paths (by_order r ((o.0, Some o.1, None) ∷ rest (n ∷ news)) ((o.0, Some o.1, Some n.1) ∷ rest news) ((n.0, None, Some n.1) ∷ beside o rest news)))) [
        | Less ↦ (here, others (n ∷ news) all)
        | Equal ↦ (here, others news all.1)
        | Greater ↦ (all.0, all_beside o rest here others news all.1)
      ]

  pub all_pairs : (olds news : List File) → AllByRecursion P (keys_of olds) → AllByRecursion P (keys_of news) → AllByRecursion P (pair_paths (pairs olds news))
  all_pairs [] news all_olds all = all_news news all
  all_pairs (o ∷ olds) news all_olds all = all_beside o (pairs olds) all_olds.0 (λ ns. all_pairs olds ns all_olds.1) news all

-- ---- the pairs' paths rise

rise_news : (news : List File) → Rises (keys_of news) → Rises (pair_paths (pairs [] news))
rise_news [] rising = tt
rise_news (n ∷ news) rising = (all_news (λ p. R n.0 p ≡ Less) news rising.0, rise_news news rising.1)

rise_beside : (o : File) (olds : List File) → Below o.0 (keys_of olds) → ((ns : List File) → Rises (keys_of ns) → Rises (pair_paths (pairs olds ns)))
    → (news : List File) → Rises (keys_of news) → Rises (pair_paths (beside o (pairs olds) news))
rise_beside o olds below others [] rising = (all_pairs (λ p. R o.0 p ≡ Less) olds [] below tt, others [] tt)
rise_beside o olds below others (n ∷ news) rising =
    elim (R o.0 n.0) as (λ r. R o.0 n.0 ≡ r → Rises (pair_paths (by_order r ((o.0, Some o.1, None) ∷ pairs olds (n ∷ news)) ((o.0, Some o.1, Some n.1) ∷ pairs olds news) ((n.0, None, Some n.1) ∷ beside o (pairs olds) news)))) [
      | Less ↦ λ less. (all_pairs (λ p. R o.0 p ≡ Less) olds (n ∷ news) below (less, below_trans o.0 n.0 (keys_of news) less rising.0), others (n ∷ news) rising)
      | Equal ↦ λ same. (all_pairs (λ p. R o.0 p ≡ Less) olds news below (subst (λ x. Below x (keys_of news)) (sym (tied o.0 n.0 same)) rising.0), others news rising.1)
      | Greater ↦ λ greater.
          let less : R n.0 o.0 ≡ Less = flipped o.0 n.0 greater in
          (all_beside (λ p. R n.0 p ≡ Less) o (pairs olds) less (λ ns all. all_pairs (λ p. R n.0 p ≡ Less) olds ns (below_trans n.0 o.0 (keys_of olds) less below) all) news rising.0, rise_beside o olds below others news rising.1)
    ] refl

pub rise_pairs : (olds news : List File) → Rises (keys_of olds) → Rises (keys_of news) → Rises (pair_paths (pairs olds news))
rise_pairs [] news rising_olds rising = rise_news news rising
rise_pairs (o ∷ olds) news rising_olds rising = rise_beside o olds rising_olds.0 (λ ns r. rise_pairs olds ns rising_olds.1 r) news rising

-- ---- changes keep what holds of the pairs

pub all_changes : (P : PlainEntry → Type 0) (ps : List Pair) → AllByRecursion (λ p. (same_side p.1 p.2 ≡ false) → P (entry_of p)) ps → AllByRecursion P (changes ps)
all_changes P [] all = tt
all_changes P (p ∷ ps) all =
    elim (same_side p.1 p.2) as (λ b. same_side p.1 p.2 ≡ b → AllByRecursion P (map entry_of (cond (not b) (p ∷ filter (λ q. not (same_side q.1 q.2)) ps) (filter (λ q. not (same_side q.1 q.2)) ps)))) [
      | true ↦ λ same. all_changes P ps all.1
      | false ↦ λ differ. (all.0 differ, all_changes P ps all.1)
    ] refl

pub changes_names : (P : List ℕ → Type 0) (ps : List Pair) → AllByRecursion P (pair_paths ps) → AllByRecursion P (names_of (changes ps))
changes_names P [] all = tt
changes_names P (p ∷ ps) all =
    elim (same_side p.1 p.2) as (λ b. AllByRecursion P (names_of (map entry_of (cond (not b) (p ∷ filter (λ q. not (same_side q.1 q.2)) ps) (filter (λ q. not (same_side q.1 q.2)) ps))))) [
      | true ↦ changes_names P ps all.1
      | false ↦ (all.0, changes_names P ps all.1)
    ]

changes_rise : (ps : List Pair) → Rises (pair_paths ps) → Rises (names_of (changes ps))
changes_rise [] rising = tt
changes_rise (p ∷ ps) rising =
    elim (same_side p.1 p.2) as (λ b. Rises (names_of (map entry_of (cond (not b) (p ∷ filter (λ q. not (same_side q.1 q.2)) ps) (filter (λ q. not (same_side q.1 q.2)) ps))))) [
      | true ↦ changes_rise ps rising.1
      | false ↦ (changes_names (λ q. R p.0 q ≡ Less) ps rising.0, changes_rise ps rising.1)
    ]

rising_of : (ps : List (List ℕ)) → Rises ps → IsRising ps
rising_of [] rising = tt
rising_of (p ∷ []) rising = tt
rising_of (p ∷ q ∷ ps) rising = (rising.0.0, rising_of (q ∷ ps) rising.1)

pub differences_rise : (olds news : List File) → Rises (keys_of olds) → Rises (keys_of news) → IsRising (names_of (changes (pairs olds news)))
differences_rise olds news rising_olds rising = rising_of (names_of (changes (pairs olds news))) (changes_rise (pairs olds news) (rise_pairs olds news rising_olds rising))

-- ---- a list in order, by the test

first : (a b : Bool) → T (a && b) → T a
first true b p = tt
first false b p = p

second : (a b : Bool) → T (a && b) → T b
second true b p = p
second false b p = absurd p

is_less : (o : Ordering) → T (is_lt o) → o ≡ Less
is_less Less p = refl
is_less Equal p = absurd p
is_less Greater p = absurd p

below_of : (x : List ℕ) (fs : List File) → T (below_all R x fs) → Below x (keys_of fs)
below_of x [] t = tt
below_of x (f ∷ fs) t = (is_less (R x f.0) (first (is_lt (R x f.0)) (below_all R x fs) t), below_of x fs (second (is_lt (R x f.0)) (below_all R x fs) t))

pub rises_of : (fs : List File) → T (is_sorted R fs) → Rises (keys_of fs)
rises_of [] t = tt
rises_of (f ∷ fs) t = (below_of f.0 fs (first (below_all R f.0 fs) (is_sorted R fs) t), rises_of fs (second (below_all R f.0 fs) (is_sorted R fs) t))
