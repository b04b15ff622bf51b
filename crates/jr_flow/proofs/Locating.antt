-- One place more that has a number.
use Rattle.std.proofs.Common.{◌≡◌, ◌⊎◌, inl, inr, refl, sym, ◌∙◌, ap, subst, ℕ, Bool, true, false, cond, List, [], ◌∷◌, ◌++◌, length, Option, Some, None, slice_get}
use Rattle.std.proofs.lemmas.Bool.{false≢true}
use Rattle.std.proofs.lemmas.Option.{none-some, same_Some, slice_get_within}
use Rattle.std.specs.HashMap.{IsEmpty}
use Rattle.std.specs.Map.{lookup}
use Rattle.jr_flow.specs.declared.leaving.State.{State}
use Rattle.jr_flow.specs.declared.locations.Locations.{Locations}
use Rattle.jr_flow.specs.Keys.{state_key, same_state}
use Rattle.jr_flow.specs.Located.{states_in, number_at, AreLocations, AddsState}
use Rattle.jr_flow.proofs.Keyed.{state_tells}
use Rattle.jr_flow.proofs.Gets.{front_get, get_pushed, get_last}

pub none_located : (locations : Locations) → IsEmpty locations.numbers → states_in locations ≡ [] → AreLocations locations
none_located locations empty none = record {
  stands = λ a n e. absurd (none-some n (sym (ap (lookup (λ q. same_state (state_key a) q)) empty) ∙ e));
  known = λ a n e. absurd (none-some a (subst (λ all. slice_get all n ≡ Some a) none e));
}

module _ (old new : Locations) (one : State) (n : ℕ) (h : AreLocations old) (fresh : number_at old one ≡ None) (states : states_in new ≡ states_in old ++ one ∷ []) (follows : n ≡ length (states_in old))
    (updates : (x : State) → number_at new x ≡ cond (same_state (state_key one) (state_key x)) (Some n) (number_at old x)) where
  in_new : (x : State) (k : ℕ) → slice_get (states_in new) k ≡ Some x → (slice_get (states_in old) k ≡ Some x) ⊎ ((k ≡ length (states_in old)) × (one ≡ x))
  in_new x k e = get_pushed (states_in old) one x k (sym (ap (λ all. slice_get all k) states) ∙ e)

  kept : (x : State) (k : ℕ) → slice_get (states_in old) k ≡ Some x → slice_get (states_in new) k ≡ Some x
  kept x k e = ap (λ all. slice_get all k) states ∙ front_get (states_in old) (one ∷ []) k (slice_get_within (states_in old) k x e) ∙ e

  at_n : slice_get (states_in new) n ≡ Some one
  at_n = ap (λ all. slice_get all n) states ∙ ap (slice_get (states_in old ++ one ∷ [])) follows ∙ get_last (states_in old) one

  stands_new : (x : State) (k : ℕ) → number_at new x ≡ Some k → slice_get (states_in new) k ≡ Some x
  stands_new x k e = by (same_state (state_key one) (state_key x)) refl (sym (updates x) ∙ e)
    where
      by : (b : Bool) → same_state (state_key one) (state_key x) ≡ b → cond b (Some n) (number_at old x) ≡ Some k → slice_get (states_in new) k ≡ Some x
      by true same is = subst (λ j. slice_get (states_in new) j ≡ Some x) (same_Some n k is) (at_n ∙ ap Some ((state_tells one x).0 same))
      by false same is = kept x k (h.stands x k is)

  known_new : (x : State) (k : ℕ) → slice_get (states_in new) k ≡ Some x → number_at new x ≡ Some k
  known_new x k e = updates x ∙ by (same_state (state_key one) (state_key x)) refl (in_new x k e)
    where
      by : (b : Bool) → same_state (state_key one) (state_key x) ≡ b → (slice_get (states_in old) k ≡ Some x) ⊎ ((k ≡ length (states_in old)) × (one ≡ x)) → cond b (Some n) (number_at old x) ≡ Some k
      by true same (inl old_one) = absurd (none-some k (sym fresh ∙ ap (number_at old) ((state_tells one x).0 same) ∙ h.known x k old_one))
      by true same (inr is) = ap Some (follows ∙ sym is.0)
      by false same (inl old_one) = h.known x k old_one
      by false same (inr is) = absurd (false≢true (sym same ∙ (state_tells one x).1 is.1))

  pub state_added : AddsState old new one n
  state_added = record { right = record { stands = stands_new; known = known_new }; states = states; last = follows }
