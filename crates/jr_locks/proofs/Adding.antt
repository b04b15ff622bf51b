-- Origins with more behind them.
use Rattle.std.proofs.Common.{◌≡◌, sym, ◌∙◌, ap, subst, arith, ℕ, ◌+◌, ◌-◌, ◌<◌, ◌≤◌, Bool, false, List, [], ◌∷◌, ◌++◌, length, drop}
use Rattle.std.specs.Prelude.{suc, replicate, slice_index_or}
use Rattle.std.proofs.lemmas.List.{append-nil, append_assoc, drop_more, drop_all, replicate_more}
use Rattle.jr_change.specs.declared.change.Segment.{Segment}
use Rattle.jr_locks.specs.Origins.{no_row, run, down, of_segment, turned_in, rest_in, origins, turned, rests}
use Rattle.jr_locks.specs.Adding.{Adds, AreBegun}
use Rattle.jr_locks.specs.declared.origins.Origins.{Origins}

pub adds_none : (all : Origins) → Adds all all [] [] []
adds_none all = record { origin = sym (append-nil all.origin.items); label = sym (append-nil all.is_turned.items); behind = sym (append-nil all.rest.items) }

adds_both : (old now new : Origins) (from more : List ℕ) (is also : List Bool) (rest later : List ℕ) → Adds old now from is rest → Adds now new more also later
    → Adds old new (from ++ more) (is ++ also) (rest ++ later)
adds_both old now new from more is also rest later h k = record {
  origin = k.origin ∙ ap (λ xs. xs ++ more) h.origin ∙ append_assoc old.origin.items from more;
  label = k.label ∙ ap (λ xs. xs ++ also) h.label ∙ append_assoc old.is_turned.items is also;
  behind = k.behind ∙ ap (λ xs. xs ++ later) h.behind ∙ append_assoc old.rest.items rest later;
}

more_run : (first k : ℕ) → run first k ++ (first + k) ∷ [] ≡ run first (k + 1)
more_run first k = let e : suc k ≡ k + 1 = omega arith in ap (run first) e

more_down : (from k : ℕ) → down from k ++ (from - k) ∷ [] ≡ down from (k + 1)
more_down from k = let e : suc k ≡ k + 1 = omega arith in ap (down from) e

pub adds_copy : (old now new : Origins) (first at end rest : ℕ) → first ≤ at → at < end → rest ≡ end - at
    → Adds old now (run first (at - first)) (replicate (at - first) false) (down (end - first) (at - first)) → Adds now new (at ∷ []) (false ∷ []) (rest ∷ [])
    → Adds old new (run first (at + 1 - first)) (replicate (at + 1 - first) false) (down (end - first) (at + 1 - first))
adds_copy old now new first at end rest low high is h k =
    let e : at + 1 - first ≡ (at - first) + 1 = omega (arith, low) in let f : first + (at - first) ≡ at = omega (arith, low) in
    let g : rest ≡ (end - first) - (at - first) = omega (arith, low, high, is) in
    subst (λ n. Adds old new (run first n) (replicate n false) (down (end - first) n)) (sym e)
    (subst (λ xs. Adds old new xs (replicate ((at - first) + 1) false) (down (end - first) ((at - first) + 1))) (ap (λ n. run first (at - first) ++ n ∷ []) (sym f) ∙ more_run first (at - first))
    (subst (λ zs. Adds old new (run first (at - first) ++ at ∷ []) (replicate ((at - first) + 1) false) zs)
    (ap (λ n. down (end - first) (at - first) ++ n ∷ []) g ∙ more_down (end - first) (at - first))
    (subst (λ ys. Adds old new (run first (at - first) ++ at ∷ []) ys (down (end - first) (at - first) ++ rest ∷ [])) (replicate_more (at - first) false)
    (adds_both old now new (run first (at - first)) (at ∷ []) (replicate (at - first) false) (false ∷ []) (down (end - first) (at - first)) (rest ∷ []) h k))))

pub adds_glue : (old now new : Origins) (k : ℕ) → Adds old now (replicate k no_row) (replicate k false) (replicate k 0) → Adds now new (no_row ∷ []) (false ∷ []) (0 ∷ [])
    → Adds old new (replicate (k + 1) no_row) (replicate (k + 1) false) (replicate (k + 1) 0)
adds_glue old now new k h one =
    subst (λ xs. Adds old new xs (replicate (k + 1) false) (replicate (k + 1) 0)) (replicate_more k no_row)
    (subst (λ ys. Adds old new (replicate k no_row ++ no_row ∷ []) ys (replicate (k + 1) 0)) (replicate_more k false)
    (subst (λ zs. Adds old new (replicate k no_row ++ no_row ∷ []) (replicate k false ++ false ∷ []) zs) (replicate_more k 0)
    (adds_both old now new (replicate k no_row) (no_row ∷ []) (replicate k false) (false ∷ []) (replicate k 0) (0 ∷ []) h one)))

-- ---- segments

pub begun : (segments : List Segment) (all : Origins) → all.origin.items ≡ [] → all.is_turned.items ≡ [] → all.rest.items ≡ [] → AreBegun segments all 0
begun segments all none also empty = record {
  origin = ap (λ xs. xs ++ origins segments) none;
  label = ap (λ xs. xs ++ turned segments) also;
  behind = ap (λ xs. xs ++ rests segments) empty;
}

pub begun_more : (segments : List Segment) (all next : Origins) (at : ℕ) (one : Segment) → at < length segments → one ≡ slice_index_or segments at one → AreBegun segments all at
    → Adds all next (of_segment one) (turned_in one) (rest_in one) → AreBegun segments next (at + 1)
begun_more segments all next at one lt is h k = record {
  origin = ap (λ xs. xs ++ origins (drop (at + 1) segments)) k.origin ∙ append_assoc all.origin.items (of_segment one) (origins (drop (at + 1) segments))
      ∙ ap (λ xs. all.origin.items ++ xs) (sym (ap origins rest)) ∙ h.origin;
  label = ap (λ xs. xs ++ turned (drop (at + 1) segments)) k.label ∙ append_assoc all.is_turned.items (turned_in one) (turned (drop (at + 1) segments))
      ∙ ap (λ xs. all.is_turned.items ++ xs) (sym (ap turned rest)) ∙ h.label;
  behind = ap (λ xs. xs ++ rests (drop (at + 1) segments)) k.behind ∙ append_assoc all.rest.items (rest_in one) (rests (drop (at + 1) segments))
      ∙ ap (λ xs. all.rest.items ++ xs) (sym (ap rests rest)) ∙ h.behind;
}
  where
    rest : drop at segments ≡ one ∷ drop (at + 1) segments
    rest = drop_more segments at one lt ∙ ap (λ s. s ∷ drop (at + 1) segments) (sym is)

pub ended_origin : (segments : List Segment) (all : Origins) (at : ℕ) → AreBegun segments all at → length segments ≤ at → all.origin.items ≡ origins segments
ended_origin segments all at h past = sym (append-nil all.origin.items) ∙ ap (λ xs. all.origin.items ++ origins xs) (sym (drop_all at segments past)) ∙ h.origin

pub ended_turned : (segments : List Segment) (all : Origins) (at : ℕ) → AreBegun segments all at → length segments ≤ at → all.is_turned.items ≡ turned segments
ended_turned segments all at h past = sym (append-nil all.is_turned.items) ∙ ap (λ xs. all.is_turned.items ++ turned xs) (sym (drop_all at segments past)) ∙ h.label

pub ended_rest : (segments : List Segment) (all : Origins) (at : ℕ) → AreBegun segments all at → length segments ≤ at → all.rest.items ≡ rests segments
ended_rest segments all at h past = sym (append-nil all.rest.items) ∙ ap (λ xs. all.rest.items ++ rests xs) (sym (drop_all at segments past)) ∙ h.behind
