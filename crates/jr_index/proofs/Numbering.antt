-- The tables of an index: how many nodes stand before each row, and the rows of the units.
use Rattle.std.proofs.Common.{◌≡◌, ℕ, zero, suc, ◌+◌, ◌<◌, ◌≤◌, ◌⊎◌, inl, inr, List, [], ◌∷◌, ◌++◌, length, refl, sym, ◌∙◌, ap, subst, arith, length-append}
use Rattle.std.proofs.Math.ListN.{get_or, get_or-append}
use Rattle.std.proofs.Math.Seq.{get_or-append_seam}
use Rattle.jr_tree.specs.declared.label.Label.{Label}
use Rattle.jr_tree.specs.declared.label.Label.TheVariants as is
use Rattle.jr_tree.specs.Rows.{Rows, label, nodes_before}
use Rattle.jr_defs.specs.Numbers.{units_before, one_if_unit}
use Rattle.std.proofs.lemmas.Grind.{get_or_default_zero}
use Rattle.std.specs.List.Sorted.{IsNonDecreasing}
use Rattle.jr_defs.proofs.Units.{up_to, units_rise}
use Rattle.jr_index.specs.NodeRows.{counts, unit_rows, if_unit}

pub length_counts : (p : Rows) (n : ℕ) → length (counts p n) ≡ n + 1
length_counts p zero = omega arith
length_counts p (suc n) = let s = length-append (counts p n) (nodes_before p (suc n) ∷ []) in let h = length_counts p n in omega arith

pub counts_at : (p : Rows) (n k : ℕ) → k ≤ n → get_or (counts p n) k 0 ≡ nodes_before p k
counts_at p zero k h = let e : 0 ≡ k = omega arith in subst (λ k. get_or (0 ∷ []) k 0 ≡ nodes_before p k) e refl
counts_at p (suc n) k h = elim (up_to k n h) [
  | inl l ↦ (let s = length_counts p n in get_or-append (counts p n) (nodes_before p (suc n) ∷ []) 0 k (omega arith) ∙ counts_at p n k l)
  | inr e ↦ (let s = length_counts p n in let same : length (counts p n) ≡ k = omega arith in
      subst (λ j. get_or (counts p n ++ nodes_before p (suc n) ∷ []) j 0 ≡ nodes_before p (suc n)) same
      (get_or-append_seam (counts p n) (nodes_before p (suc n)) [] 0)
      ∙ ap (nodes_before p) (sym e))
]

-- ---- rows of units

one : (l : Label) (n : ℕ) → length (if_unit l n) ≡ one_if_unit l
one is.Unit n = refl
one _ n = refl

pub length_units : (p : Rows) (n : ℕ) → length (unit_rows p n) ≡ units_before p n
length_units p zero = refl
length_units p (suc n) =
    let s = length-append (unit_rows p n) (if_unit (label p n) n) in let h = length_units p n in let o = one (label p n) n in omega arith

-- the row is a unit among the first n rows, with so many units before it
pub record IsUnitRow (p : Rows) (n k u : ℕ) : Type 0 where
  pub unit : label p u ≡ is.Unit
  pub below : u < n
  pub number : units_before p u ≡ k

last_unit : (l : Label) (xs : List ℕ) (n : ℕ) → 0 < one_if_unit l → (l ≡ is.Unit) × (get_or (xs ++ if_unit l n) (length xs) 0 ≡ n) × (one_if_unit l ≡ 1)
last_unit is.Unit xs n h = (refl, get_or-append_seam xs n [] 0, refl)
last_unit _ xs n h = absurd (omega arith)

pub unit_at : (p : Rows) (n k : ℕ) → k < units_before p n → IsUnitRow p n k (get_or (unit_rows p n) k 0)
unit_at p zero k h = absurd (omega arith)
unit_at p (suc n) k h =
    let s = length_units p n in
    let side : (k < units_before p n) ⊎ (units_before p n ≤ k) = grind arith in
    elim side [
      | inl l ↦ (let w = unit_at p n k l in
          subst (IsUnitRow p (suc n) k) (sym (get_or-append (unit_rows p n) (if_unit (label p n) n) 0 k (omega arith)))
          (record { unit = w.unit; below = (let b = w.below in omega arith); number = w.number }))
      | inr g ↦ (let w = last_unit (label p n) (unit_rows p n) n (omega arith) in
          let o = w.2 in
          let same : length (unit_rows p n) ≡ k = omega arith in
          let at : get_or (unit_rows p (suc n)) k 0 ≡ n = subst (λ j. get_or (unit_rows p (suc n)) j 0 ≡ n) same w.1 in
          subst (IsUnitRow p (suc n) k) (sym at) (record { unit = w.0; below = omega arith; number = omega arith }))
    ]

ends_in_unit : (l : Label) (xs : List ℕ) (n : ℕ) → l ≡ is.Unit → (0 < one_if_unit l) × (get_or (xs ++ if_unit l n) (length xs) 0 ≡ n)
ends_in_unit l xs n e = subst (λ l. (0 < one_if_unit l) × (get_or (xs ++ if_unit l n) (length xs) 0 ≡ n)) (sym e) (omega arith, get_or-append_seam xs n [] 0)

-- each unit stands where its number says
pub unit_found : (p : Rows) (n u : ℕ) → u < n → label p u ≡ is.Unit → (units_before p u < units_before p n) × (get_or (unit_rows p n) (units_before p u) 0 ≡ u)
unit_found p zero u lt e = absurd (omega arith)
unit_found p (suc n) u lt e =
    let s = length_units p n in
    let side : (u < n) ⊎ (n ≡ u) = earlier in
    elim side [
      | inl l ↦ (let w = unit_found p n u l e in let b = w.0 in
          (omega arith, get_or-append (unit_rows p n) (if_unit (label p n) n) 0 (units_before p u) (omega arith) ∙ w.1))
      | inr same ↦ subst (λ u. (units_before p u < units_before p (suc n)) × (get_or (unit_rows p (suc n)) (units_before p u) 0 ≡ u)) same
          (let w = ends_in_unit (label p n) (unit_rows p n) n (ap (label p) same ∙ e) in let o = w.0 in
          (omega arith, subst (λ j. get_or (unit_rows p (suc n)) j 0 ≡ n) s w.1))
    ]
  where
    earlier : (u < n) ⊎ (n ≡ u)
    earlier = let w : (u < n) ⊎ (n ≤ u) = grind arith in elim w [ inl l ↦ inl l | inr g ↦ inr (omega arith) ]

one_at_most : (l : Label) → one_if_unit l ≤ 1
one_at_most is.Unit = omega arith
one_at_most _ = omega arith

few_before : (p : Rows) (n : ℕ) → units_before p n ≤ n
few_before p zero = omega arith
few_before p (suc n) = let before = few_before p n in let here = one_at_most (label p n) in omega arith

pub units_few : (p : Rows) (n : ℕ) → length (unit_rows p n) ≤ n
units_few p n = let many = length_units p n in let few = few_before p n in omega arith

-- the units stand one behind another among the first rows
pub units_within : (p : Rows) (n u d : ℕ) → u < length (unit_rows p n) → get_or (unit_rows p n) u d < n
units_within p n u d h =
    let many = length_units p n in
    let same = get_or_default_zero (unit_rows p n) u d h in
    let below = (unit_at p n u (omega arith)).below in
    omega arith

pub units_rising : (p : Rows) (n : ℕ) → IsNonDecreasing (unit_rows p n)
units_rising p n i j d le h =
    let many = length_units p n in
    let u = get_or (unit_rows p n) i 0 in
    let v = get_or (unit_rows p n) j 0 in
    let a = unit_at p n i (omega arith) in
    let b = unit_at p n j (omega arith) in
    let x = get_or_default_zero (unit_rows p n) i d (omega arith) in
    let y = get_or_default_zero (unit_rows p n) j d (omega arith) in
    let side : (v < u) ⊎ (u ≤ v) = grind arith in
    elim side [
      | inl l ↦ (let r = units_rise p (suc v) u (omega arith) in
          let o : one_if_unit (label p v) ≡ 1 = ap one_if_unit b.unit in
          let first = a.number in
          let second = b.number in absurd (omega arith))
      | inr g ↦ omega arith
    ]
