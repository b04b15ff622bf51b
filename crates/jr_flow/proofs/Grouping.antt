-- Hops of the last place, and of each.
use Rattle.std.proofs.Common.{◌≡◌, refl, sym, ◌∙◌, ap, ap₂, subst, arith, ℕ, zero, suc, ◌+◌, ◌<◌, ◌≤◌, List, [], ◌∷◌, ◌++◌, length, length-append, append_assoc, append-nil, Option, Some, None, slice_get}
use Rattle.std.proofs.lemmas.Option.{none-some, same_Some}
use Rattle.jr_flow.specs.declared.hops.Hop as code
use Rattle.jr_flow.specs.declared.hops.Hops.{Hops}
use Rattle.jr_flow.specs.Grouped.{firsts_of, hops_in, joined, starts_of, AreGrouped}
use Rattle.jr_flow.proofs.Gets.{front_get, behind_get}

joined_more : (groups : List (List code.Hop)) (group : List code.Hop) → joined (groups ++ group ∷ []) ≡ joined groups ++ group
joined_more [] group = append-nil group
joined_more (one ∷ groups) group = ap (λ xs. one ++ xs) (joined_more groups group) ∙ sym (append_assoc one (joined groups) group)

starts_more : (before : ℕ) (groups : List (List code.Hop)) (group : List code.Hop) → starts_of before (groups ++ group ∷ []) ≡ starts_of before groups ++ (before + length (joined groups)) ∷ []
starts_more before [] group = let e : before ≡ before + 0 = omega arith in ap (λ k. k ∷ []) e
starts_more before (one ∷ groups) group =
    let l : length (joined (one ∷ groups)) ≡ length one + length (joined groups) = length-append one (joined groups) in
    let e : before + length one + length (joined groups) ≡ before + length (joined (one ∷ groups)) = omega (arith, l) in
    ap (λ xs. before ∷ xs) (starts_more (before + length one) groups group ∙ ap (λ k. starts_of (before + length one) groups ++ k ∷ []) e)

pub group_begun : (old new : Hops) (groups : List (List code.Hop)) → AreGrouped old groups → hops_in new ≡ hops_in old → firsts_of new ≡ firsts_of old ++ length (hops_in old) ∷ [] → AreGrouped new (groups ++ [] ∷ [])
group_begun old new groups h same firsts = record {
  all = same ∙ h.all ∙ sym (joined_more groups [] ∙ append-nil (joined groups));
  firsts = firsts ∙ ap₂ (λ xs k. xs ++ k ∷ []) h.firsts (ap length h.all ∙ zero_before (length (joined groups))) ∙ sym (starts_more 0 groups []);
}
  where
    zero_before : (k : ℕ) → k ≡ 0 + k
    zero_before k = omega arith

pub hop_pushed : (old new : Hops) (groups : List (List code.Hop)) (group : List code.Hop) (hop : code.Hop) → AreGrouped old (groups ++ group ∷ []) → hops_in new ≡ hops_in old ++ hop ∷ [] → firsts_of new ≡ firsts_of old → AreGrouped new (groups ++ (group ++ hop ∷ []) ∷ [])
hop_pushed old new groups group hop h all same = record {
  all = all ∙ ap (λ xs. xs ++ hop ∷ []) (h.all ∙ joined_more groups group) ∙ append_assoc (joined groups) group (hop ∷ []) ∙ sym (joined_more groups (group ++ hop ∷ []));
  firsts = same ∙ h.firsts ∙ starts_more 0 groups group ∙ sym (starts_more 0 groups (group ++ hop ∷ []));
}

-- ---- the hops of each

-- how many stand before those of the place
abbrev pub joined_before : List (List code.Hop) → ℕ → ℕ
joined_before groups zero = 0
joined_before [] (suc i) = 0
joined_before (group ∷ groups) (suc i) = length group + joined_before groups i

pub start_at : (before : ℕ) (groups : List (List code.Hop)) (i : ℕ) → i < length groups → slice_get (starts_of before groups) i ≡ Some (before + joined_before groups i)
start_at before [] i lt = absurd (omega (arith, lt))
start_at before (group ∷ groups) zero lt = let e : before ≡ before + 0 = omega arith in ap Some e
start_at before (group ∷ groups) (suc i) lt =
    let e : before + length group + joined_before groups i ≡ before + (length group + joined_before groups i) = omega arith in
    start_at (before + length group) groups i (omega (arith, lt)) ∙ ap Some e

pub next_start : (groups : List (List code.Hop)) (i : ℕ) (group : List code.Hop) → slice_get groups i ≡ Some group → joined_before groups (suc i) ≡ joined_before groups i + length group
next_start [] i group e = absurd (none-some group e)
next_start (one ∷ groups) zero group e = let same : length one ≡ length group = ap length (same_Some one group e) in omega (arith, same)
next_start (one ∷ groups) (suc i) group e = let rest : joined_before groups (suc i) ≡ joined_before groups i + length group = next_start groups i group e in
    omega (arith, rest)

pub hop_in_group : (groups : List (List code.Hop)) (i j : ℕ) (group : List code.Hop) → slice_get groups i ≡ Some group → j < length group → slice_get (joined groups) (joined_before groups i + j) ≡ slice_get group j
hop_in_group [] i j group e lt = absurd (none-some group e)
hop_in_group (one ∷ groups) zero j group e lt = let same : one ≡ group = same_Some one group e in
    let l : length one ≡ length group = ap length same in
    ap (slice_get (one ++ joined groups)) (zero_plus j) ∙ front_get one (joined groups) j (omega (arith, l, lt)) ∙ ap (λ xs. slice_get xs j) same
  where
    zero_plus : (k : ℕ) → 0 + k ≡ k
    zero_plus k = omega arith
hop_in_group (one ∷ groups) (suc i) j group e lt = behind_get one (joined groups) (length one + joined_before groups i + j) (joined_before groups i + j) (regroup (length one) (joined_before groups i) j) ∙ hop_in_group groups i j group e lt
  where
    regroup : (a b c : ℕ) → a + b + c ≡ a + (b + c)
    regroup a b c = omega arith
