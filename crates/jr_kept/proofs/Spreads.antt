-- The search for points that ways reach without coming to a barred one.
use Rattle.std.proofs.Common.{◌≡◌, inl, inr, ⊎_elim, sym, ◌∙◌, ap, subst, refl, ℕ, ◌<◌, Bool, true, false, List, [], ◌∷◌, ◌++◌, map, arith}
use Rattle.std.specs.List.{Contains}
use Rattle.std.proofs.lemmas.Bool.{false≢true}
use Rattle.std.proofs.lemmas.List.Elements.{Contains-append_left, Contains-append_right, Contains-append_cases, Contains-push, Contains-push_cases}
use Rattle.jr_places.specs.declared.stamps.Stamps.{Stamps}
use Rattle.jr_places.specs.Stamps.{is_stamped, IsEmptied, AddsStamp}
use Rattle.jr_flow_defs.proofs.Searched.{contains_out, contains_first, contains_more}
use Rattle.jr_flow.specs.declared.point.Step.{Step}
use Rattle.jr_flow.specs.Reached.{step_seen}
use Rattle.jr_kept.specs.declared.lists.Lists.{Lists}
use Rattle.jr_kept.specs.Listed.{IsListing}
use Rattle.jr_kept.specs.Searched.{HasStepTo, IsMetOrOpen}
use Rattle.jr_kept.specs.Spread.{back_of, AreWaysBack, IsSpread, AreSpread, AreNext, IsSpreading}
use Rattle.jr_kept.proofs.Searching.{none_in, under_zero}
use Rattle.jr_kept.proofs.Coming.{stamped_inside}

-- ---- ways back

back_into : (all : List Step) (i j : ℕ) → HasStepTo (map step_seen all) j i → Contains (map back_of all) (i, j)
back_into [] i j h = absurd (none_in (j, i, h.0) h.1)
back_into (s ∷ all) i j h = ⊎_elim
    (λ same. subst (Contains (map back_of (s ∷ all))) (ap (λ (x : ℕ × ℕ × Bool). (x.1, x.0)) same) (contains_first (back_of s) (map back_of all)))
    (λ more. contains_more (back_of s) (map back_of all) (i, j) (back_into all i j (h.0, more)))
    (contains_out (step_seen s) (map step_seen all) (j, i, h.0) h.1)

back_out : (all : List Step) (i j : ℕ) → Contains (map back_of all) (i, j) → HasStepTo (map step_seen all) j i
back_out [] i j h = absurd (none_in (i, j) h)
back_out (s ∷ all) i j h = ⊎_elim
    (λ same. (s.is_throw, subst (λ (x : ℕ × ℕ). Contains (map step_seen (s ∷ all)) (x.1, x.0, s.is_throw)) same (contains_first (step_seen s) (map step_seen all))))
    (λ more. let one = back_out all i j more in (one.0, contains_more (step_seen s) (map step_seen all) (j, i, one.0) one.1))
    (contains_out (back_of s) (map back_of all) (i, j) h)

pub back_listed : (lists : Lists) (count : ℕ) (all : List Step) → IsListing lists 0 count (map back_of all) → AreWaysBack lists count (map step_seen all)
back_listed lists count all l i j lt = (
  λ m. back_out all i j (l.listed.only i j (subst (λ ys. Contains ys j) (under_zero lists count (map back_of all) i l) m)),
  λ s. subst (λ ys. Contains ys j) (sym (under_zero lists count (map back_of all) i l)) (l.listed.every i j (back_into all i j s) (omega arith) (omega (arith, lt))),
)

-- ---- points from which the search begins

pub begins_none : (ways : ℕ → List ℕ) (waiting : List ℕ) → (i k : ℕ) → Contains {X = ℕ} [] i → Contains (ways i) k → Contains waiting k
begins_none ways waiting i k c = absurd (none_in i c)

pub begins_next : (ways : ℕ → List ℕ) (done from waiting new : List ℕ) (at : ℕ) → from ≡ done ++ at ∷ [] → new ≡ waiting ++ ways at → ((i k : ℕ) → Contains done i → Contains (ways i) k → Contains waiting k) → (i k : ℕ) → Contains from i → Contains (ways i) k → Contains new k
begins_next ways done from waiting new at is more h i k c w = subst (λ xs. Contains xs k) (sym more)
    (⊎_elim (λ early. Contains-append_left waiting (ways at) k (h i k early w)) (λ same. Contains-append_right waiting (ways at) k (subst (λ n. Contains (ways n) k) (sym same) w))
    (Contains-push_cases done at i (subst (λ xs. Contains xs i) is c)))

pub next_more : (ways : ℕ → List ℕ) (done from waiting last new : List ℕ) (at : ℕ) → from ≡ done ++ at ∷ [] → new ≡ last ++ ways at → AreNext ways done waiting last → AreNext ways from waiting new
next_more ways done from waiting last new at is more h k c = ⊎_elim
    (λ early. ⊎_elim (λ old. inl old) (λ n. inr (record { at = n.at; among = wider n.at (Contains-append_left done (at ∷ []) n.at n.among); leads = n.leads })) (h k early))
    (λ late. inr (record { at = at; among = wider at (Contains-push done at); leads = late }))
    (Contains-append_cases last (ways at) k (subst (λ xs. Contains xs k) more c))
  where
    wider : (n : ℕ) → Contains (done ++ at ∷ []) n → Contains from n
    wider n m = subst (λ xs. Contains xs n) (sym is) m

-- ---- the search

module _ (ways : ℕ → List ℕ) (from : List ℕ) (barred : Stamps) (bound : ℕ) where
  pub spreading_begun : (met : Stamps) (waiting : List ℕ) → IsEmptied met bound → ((i k : ℕ) → Contains from i → Contains (ways i) k → Contains waiting k) → AreNext ways from [] waiting → IsSpreading ways from barred bound met waiting
  spreading_begun met waiting empty h next = record {
    counted = empty.counted;
    begun = λ i k f c lt free. inr (h i k f c);
    passed = λ i k s c lt free. absurd (false≢true (sym (empty.none i) ∙ s));
    sound = λ k s. absurd (false≢true (sym (empty.none k) ∙ s));
    waits = λ k c lt free. ⊎_elim (λ none. absurd (none_in k none)) (λ n. IsSpread.first n.among n.leads lt free) (next k c);
  }

  module _ (met : Stamps) (rest : List ℕ) (at : ℕ) (h : IsSpreading ways from barred bound met (rest ++ at ∷ [])) where
    -- it is barred
    pub spreading_barred : is_stamped barred at ≡ true → IsSpreading ways from barred bound met rest
    spreading_barred bars = record {
      counted = h.counted;
      begun = λ i k f c lt free. still k free (h.begun i k f c lt free);
      passed = λ i k s c lt free. still k free (h.passed i k s c lt free);
      sound = h.sound;
      waits = λ k c lt free. h.waits k (Contains-append_left rest (at ∷ []) k c) lt free;
    }
      where
        still : (k : ℕ) → is_stamped barred k ≡ false → IsMetOrOpen met (rest ++ at ∷ []) k → IsMetOrOpen met rest k
        still k free (inl stamped) = inl stamped
        still k free (inr among) = ⊎_elim (λ early. inr early) (λ last. absurd (false≢true (sym free ∙ subst (λ n. is_stamped barred n ≡ true) last bars))) (Contains-push_cases rest at k among)

    -- it was met before, or is none of the points
    pub spreading_known : (added : Stamps) → AddsStamp met added bound at false → IsSpreading ways from barred bound added rest
    spreading_known added adds = record {
      counted = adds.counted;
      begun = λ i k f c lt free. still k lt (h.begun i k f c lt free);
      passed = λ i k s c lt free. still k lt (h.passed i k (was i s) c lt free);
      sound = λ k s. h.sound k (was k s);
      waits = λ k c lt free. h.waits k (Contains-append_left rest (at ∷ []) k c) lt free;
    }
      where
        here : (k : ℕ) → at ≡ k → k < bound → is_stamped met k ≡ true
        here k same lt = subst (λ n. is_stamped met n ≡ true) same (adds.was (subst (λ n. n < bound) (sym same) lt) refl)

        still : (k : ℕ) → k < bound → IsMetOrOpen met (rest ++ at ∷ []) k → IsMetOrOpen added rest k
        still k lt (inl stamped) = inl (adds.kept k stamped)
        still k lt (inr among) = ⊎_elim (λ early. inr early) (λ last. inl (adds.kept k (here k last lt))) (Contains-push_cases rest at k among)

        was : (i : ℕ) → is_stamped added i ≡ true → is_stamped met i ≡ true
        was i s = ⊎_elim (λ early. early) (λ same. here i same (stamped_inside added bound i adds.counted s)) (adds.out i s)

    -- it is met now
    pub spreading_more : (added : Stamps) → AddsStamp met added bound at true → is_stamped barred at ≡ false → IsSpreading ways from barred bound added (rest ++ ways at)
    spreading_more added adds apart = record {
      counted = adds.counted;
      begun = λ i k f c lt free. still k (h.begun i k f c lt free);
      passed = λ i k s c lt free. ⊎_elim (λ early. still k (h.passed i k early c lt free)) (λ same. inr (Contains-append_right rest (ways at) k (subst (λ n. Contains (ways n) k) (sym same) c))) (adds.out i s);
      sound = λ k s. ⊎_elim (λ early. h.sound k early) (λ same. subst (IsSpread ways from barred bound) same here) (adds.out k s);
      waits = λ k c lt free. ⊎_elim (λ early. h.waits k (Contains-append_left rest (at ∷ []) k early) lt free) (λ late. IsSpread.on here late lt free) (Contains-append_cases rest (ways at) k c);
    }
      where
        here : IsSpread ways from barred bound at
        here = h.waits at (Contains-push rest at) (stamped_inside added bound at adds.counted (adds.new_one refl).1) apart

        still : (k : ℕ) → IsMetOrOpen met (rest ++ at ∷ []) k → IsMetOrOpen added (rest ++ ways at) k
        still k (inl stamped) = inl (adds.kept k stamped)
        still k (inr among) = ⊎_elim (λ early. inr (Contains-append_left rest (ways at) k early)) (λ last. inl (subst (λ n. is_stamped added n ≡ true) last (adds.new_one refl).1)) (Contains-push_cases rest at k among)

  -- nothing waits
  pub spreading_ends : (met : Stamps) → IsSpreading ways from barred bound met [] → AreSpread ways from barred bound met
  spreading_ends met h k s = by k s
    where
      is_met : (n : ℕ) → IsMetOrOpen met [] n → is_stamped met n ≡ true
      is_met n (inl stamped) = stamped
      is_met n (inr among) = absurd (none_in n among)

      by : (n : ℕ) → IsSpread ways from barred bound n → is_stamped met n ≡ true
      by n (IsSpread.first {i = i} f c lt free) = is_met n (h.begun i n f c lt free)
      by n (IsSpread.on {i = i} way c lt free) = is_met n (h.passed i n (by i way) c lt free)
