-- Ways over places that are no points, put together, and the search for the points behind one.
use Rattle.std.proofs.Common.{◌≡◌, ◌⊎◌, inl, inr, refl, sym, ◌∙◌, subst, ap, arith, ℕ, zero, suc, ◌+◌, ◌-◌, ◌<◌, ◌≤◌, Bool, true, false, not, if◌then◌else◌, List, [], ◌∷◌, ◌++◌, length, append_assoc, append-nil, map, ⊎_elim, Option, Some, None, option_and_then, unwrap_or, slice_get, slice_set}
use Rattle.std.specs.List.{Contains}
use Rattle.std.proofs.lemmas.Bool.{false≢true, cases_lt, cases_eq}
use Rattle.std.proofs.lemmas.Option.{none-some, same_Some, slice_get_within, slice_get_past}
use Rattle.std.proofs.lemmas.List.Elements.{Contains-append_left, Contains-append_right, Contains-append_cases, Contains-push, Contains-push_cases}
use Rattle.jr_flow_defs.specs.States.{Hop}
use Rattle.jr_flow_defs.specs.Paths.{Flow, Goes, IsPoint, Onward, Steps}
use Rattle.jr_flow_defs.specs.Graphs.{StepList}
use Rattle.jr_places.specs.declared.stamps.Stamps.{Stamps}
use Rattle.jr_places.specs.Stamps.{is_stamped, IsStamping, IsEmptied, AddsStamp}
use Rattle.jr_flow.specs.declared.hops.Hop as code_hop
use Rattle.jr_flow.specs.declared.states.States.{States}
use Rattle.jr_flow.specs.Located.{states_in}
use Rattle.jr_flow.specs.Explored.{HasNumberedStep}
use Rattle.jr_flow.specs.Walked.{number_in, hop_then, hops_from, hops_at, IsFlowOf, OnwardIn, NoLonger, LeadsTo, IsEnd, AreEnds, such, end_in, opened, IsMetOrOpen, AreSound, IsWalking, HasSteps}
use Rattle.jr_flow.proofs.Exploring.{out, here}
use Rattle.jr_flow.proofs.Gets.{get_pushed, get_set_same, get_set_other}

-- ---- chains

pub record InSome (g : Flow ℕ) (i b : ℕ) : Type 0 where
  pub hops : ℕ
  pub onward : OnwardIn g hops i b

pub counted : (g : Flow ℕ) (i b : ℕ) → Onward g i b → InSome g i b
counted g i b (Onward.here p) = record { hops = zero; onward = OnwardIn.at p }
counted g i b (Onward.on {r = r} quiet goes more) = let rest = counted g r b more in record { hops = suc rest.hops; onward = OnwardIn.on quiet goes rest.onward }

pub uncounted : (g : Flow ℕ) (n i b : ℕ) → OnwardIn g n i b → Onward g i b
uncounted g n i b (OnwardIn.at p) = Onward.here p
uncounted g n i b (OnwardIn.on {n = fewer} {r = r} quiet goes more) = Onward.on quiet goes (uncounted g fewer r b more)

pub stays : (g : Flow ℕ) (i : ℕ) → LeadsTo g i i
stays g i = record { on = λ n b o. record { hops = n; few = omega arith; onward = o }; back = λ b o. o }

pub leads_on : (g : Flow ℕ) (i e k : ℕ) → LeadsTo g i e → LeadsTo g e k → LeadsTo g i k
leads_on g i e k first second = record {
  on = λ n b o. let one = first.on n b o in let two = second.on one.hops b one.onward in record { hops = two.hops; few = omega (arith, one.few, two.few); onward = two.onward };
  back = λ b o. first.back b (second.back b o);
}

-- a place that is no point, and from which control goes to one place alone
module _ (g : Flow ℕ) (i : ℕ) (h : Hop ℕ) (quiet : IsPoint g i → ⊥) (is : g.hops i ≡ h ∷ []) where
  goes_to : (r : ℕ) → Goes g i r → r ≡ h.to
  goes_to r goes = ⊎_elim (λ e. sym (ap (λ k. k.to) e)) (λ none. absurd (omega (arith, none.1))) (out h [] (record { to = r; is_throw = goes.is_throw }) (subst (λ hs. Contains hs (record { to = r; is_throw = goes.is_throw })) is goes.hop))

  only_on : (n b : ℕ) → OnwardIn g n i b → NoLonger g n h.to b
  only_on n b (OnwardIn.at p) = absurd (quiet p)
  only_on n b (OnwardIn.on {n = fewer} {r = r} other goes more) = record { hops = fewer; few = omega arith; onward = subst (λ k. OnwardIn g fewer k b) (goes_to r goes) more }

  pub goes_only : Goes g i h.to
  goes_only = record { is_throw = h.is_throw; hop = subst (λ hs. Contains hs h) (sym is) (here h []) }

  pub only_way : LeadsTo g i h.to
  only_way = record { on = only_on; back = λ b o. Onward.on quiet goes_only o }

-- what the code reads at such a place
pub one_way : (states : States) (g : Flow ℕ) (i first : ℕ) (h : code_hop.Hop) → IsFlowOf states g → i < length (states_in states.locations) → number_in states i ≡ None → hops_at states i ≡ hops_from states.hops.all.items first 1 → slice_get states.hops.all.items first ≡ Some h
    → IsEnd states g i h.to
one_way states g i first h flow lt none one at_first =
    let is : g.hops i ≡ record { to = h.to; is_throw = h.is_throw } ∷ [] = flow.hops_are i lt ∙ one ∙ ap (λ o. hop_then o []) at_first in
    let quiet : IsPoint g i → ⊥ = λ p. let k = flow.points i p in none-some k.0 (sym none ∙ k.1) in
    record { leads = only_way g i (record { to = h.to; is_throw = h.is_throw }) quiet is; inside = flow.inside i h.to lt (goes_only g i (record { to = h.to; is_throw = h.is_throw }) quiet is) }

-- ---- ends

pub end_leads : (states : States) (g : Flow ℕ) (ends : List ℕ) (r : ℕ) → AreEnds states g ends → LeadsTo g r (end_in ends r)
end_leads states g ends r h = by (slice_get ends r) refl
  where
    by : (o : Option ℕ) → slice_get ends r ≡ o → LeadsTo g r (unwrap_or o r)
    by None e = stays g r
    by (Some k) e = h.leads r k e

pub end_inside : (states : States) (g : Flow ℕ) (ends : List ℕ) (r : ℕ) → AreEnds states g ends → r < length (states_in states.locations) → end_in ends r < length (states_in states.locations)
end_inside states g ends r h lt = by (slice_get ends r) refl
  where
    by : (o : Option ℕ) → slice_get ends r ≡ o → unwrap_or o r < length (states_in states.locations)
    by None e = lt
    by (Some k) e = h.inside r k e

pub no_ends : (states : States) (g : Flow ℕ) (ends : List ℕ) → ends ≡ [] → AreEnds states g ends
no_ends states g ends none = record { leads = λ i e f. absurd (none-some e (ap (λ xs. slice_get xs i) (sym none) ∙ f)); inside = λ i e f. absurd (none-some e (ap (λ xs. slice_get xs i) (sym none) ∙ f)) }

pub end_pushed : (states : States) (g : Flow ℕ) (ends more : List ℕ) (n e : ℕ) → AreEnds states g ends → length ends ≡ n → IsEnd states g n e → more ≡ ends ++ e ∷ [] → AreEnds states g more
end_pushed states g ends more n e h size end is = record {
  leads = λ i k f. ⊎_elim (λ early. h.leads i k early) (λ late. subst (λ x. LeadsTo g x k) (sym (late.0 ∙ size)) (subst (LeadsTo g n) late.1 end.leads)) (at i k f);
  inside = λ i k f. ⊎_elim (λ early. h.inside i k early) (λ late. subst (λ x. x < length (states_in states.locations)) late.1 end.inside) (at i k f);
}
  where
    at : (i k : ℕ) → slice_get more i ≡ Some k → (slice_get ends i ≡ Some k) ⊎ ((i ≡ length ends) × (e ≡ k))
    at i k f = get_pushed ends e k i (ap (λ xs. slice_get xs i) (sym is) ∙ f)

pub end_set : (states : States) (g : Flow ℕ) (ends more : List ℕ) (n e next : ℕ) → AreEnds states g ends → slice_get ends n ≡ Some e → next ≡ end_in ends e → more ≡ slice_set ends n next → AreEnds states g more
end_set states g ends more n e next h at_n next_is is = record {
  leads = λ i k f. by i k (cases_eq i n) f;
  inside = λ i k f. within i k (cases_eq i n) f;
}
  where
    set_at : slice_get more n ≡ Some next
    set_at = ap (λ xs. slice_get xs n) is ∙ get_set_same ends n next (slice_get_within ends n e at_n)

    other : (i k : ℕ) → (i ≡ n → ⊥) → slice_get more i ≡ Some k → slice_get ends i ≡ Some k
    other i k apart f = sym (ap (λ xs. slice_get xs i) is ∙ get_set_other ends n i next (λ same. apart (sym same))) ∙ f

    next_at : (i k : ℕ) → i ≡ n → slice_get more i ≡ Some k → end_in ends e ≡ k
    next_at i k same f = sym next_is ∙ same_Some next k (sym set_at ∙ ap (slice_get more) (sym same) ∙ f)

    by : (i k : ℕ) → (i ≡ n) ⊎ (i ≡ n → ⊥) → slice_get more i ≡ Some k → LeadsTo g i k
    by i k (inl same) f = subst (λ x. LeadsTo g x k) (sym same) (subst (LeadsTo g n) (next_at i k same f) (leads_on g n e (end_in ends e) (h.leads n e at_n) (end_leads states g ends e h)))
    by i k (inr apart) f = h.leads i k (other i k apart f)

    within : (i k : ℕ) → (i ≡ n) ⊎ (i ≡ n → ⊥) → slice_get more i ≡ Some k → k < length (states_in states.locations)
    within i k (inl same) f = subst (λ x. x < length (states_in states.locations)) (next_at i k same f) (end_inside states g ends e h (h.inside n e at_n))
    within i k (inr apart) f = h.inside i k (other i k apart f)

-- ---- what is opened

pub opened_next : (ends : List ℕ) (t : Bool) (all : List code_hop.Hop) (old new total : List ℕ) (k stop : ℕ) → k < stop → new ≡ old ++ opened ends t (hop_then (slice_get all k) [])
    → old ++ opened ends t (hops_from all k (stop - k)) ≡ total → new ++ opened ends t (hops_from all (k + 1) (stop - (k + 1))) ≡ total
opened_next ends t all old new total k stop lt is h = let rest = hops_from all (k + 1) (stop - (k + 1)) in let one : stop - k ≡ suc (stop - (k + 1)) = omega (arith, lt) in
    ap (λ xs. xs ++ opened ends t rest) is ∙ append_assoc old (opened ends t (hop_then (slice_get all k) [])) (opened ends t rest) ∙ ap (λ xs. old ++ xs) (joined (slice_get all k) rest) ∙ ap (λ c. old ++ opened ends t (hops_from all k c)) (sym one) ∙ h
  where
    joined : (o : Option code_hop.Hop) (rest : List (Hop ℕ)) → opened ends t (hop_then o []) ++ opened ends t rest ≡ opened ends t (hop_then o rest)
    joined None rest = refl
    joined (Some x) rest = append_assoc (if such t x.is_throw then end_in ends x.to ∷ [] else []) [] (opened ends t rest)

pub opened_ends : (ends : List ℕ) (t : Bool) (all : List code_hop.Hop) (old total : List ℕ) (k stop : ℕ) → stop ≤ k → old ++ opened ends t (hops_from all k (stop - k)) ≡ total → old ≡ total
opened_ends ends t all old total k stop le h = let none : stop - k ≡ 0 = omega (arith, le) in sym (append-nil old) ∙ ap (λ c. old ++ opened ends t (hops_from all k c)) (sym none) ∙ h

pub opened_has : (ends : List ℕ) (t : Bool) (hs : List (Hop ℕ)) (r : ℕ) → Contains hs (record { to = r; is_throw = t }) → Contains (opened ends t hs) (end_in ends r)
opened_has ends t [] r h = absurd (omega (arith, h.1))
opened_has ends t (one ∷ hs) r h = ⊎_elim
    (λ e. Contains-append_left (if such t one.is_throw then end_in ends one.to ∷ [] else []) (opened ends t hs) (end_in ends r) (first (such t one.is_throw) (is_such t ∙ ap (λ k. such t k.is_throw) (sym e)) (ap (λ k. end_in ends k.to) e)))
    (λ later. Contains-append_right (if such t one.is_throw then end_in ends one.to ∷ [] else []) (opened ends t hs) (end_in ends r) (opened_has ends t hs r later))
    (out one hs (record { to = r; is_throw = t }) h)
  where
    is_such : (t : Bool) → true ≡ such t t
    is_such true = refl
    is_such false = refl

    first : (b : Bool) → true ≡ b → end_in ends one.to ≡ end_in ends r → Contains (if b then end_in ends one.to ∷ [] else []) (end_in ends r)
    first true e same = subst (λ k. Contains (end_in ends one.to ∷ []) k) same (here (end_in ends one.to) [])
    first false e same = absurd (false≢true (sym e))

pub record OpenedFrom (ends : List ℕ) (hs : List (Hop ℕ)) (t : Bool) (o : ℕ) : Type 0 where
  pub to : ℕ
  pub among : Contains hs (record { to = to; is_throw = t })
  pub is : end_in ends to ≡ o

pub opened_from : (ends : List ℕ) (t : Bool) (hs : List (Hop ℕ)) (o : ℕ) → Contains (opened ends t hs) o → OpenedFrom ends hs t o
opened_from ends t [] o h = absurd (omega (arith, h.1))
opened_from ends t (one ∷ hs) o h = ⊎_elim
    (λ early. first (such t one.is_throw) refl early)
    (λ later. let rest = opened_from ends t hs o later in record { to = rest.to; among = Contains-append_right (one ∷ []) hs (record { to = rest.to; is_throw = t }) rest.among; is = rest.is })
    (Contains-append_cases (if such t one.is_throw then end_in ends one.to ∷ [] else []) (opened ends t hs) o h)
  where
    such_is : (s b : Bool) → such s b ≡ true → b ≡ s
    such_is true true e = refl
    such_is true false e = absurd (false≢true e)
    such_is false true e = absurd (false≢true e)
    such_is false false e = refl

    first : (b : Bool) → such t one.is_throw ≡ b → Contains (if b then end_in ends one.to ∷ [] else []) o → OpenedFrom ends (one ∷ hs) t o
    first true e h = ⊎_elim
        (λ is. record { to = one.to; among = subst (λ s. Contains (one ∷ hs) (record { to = one.to; is_throw = s })) (such_is t one.is_throw e) (here one hs); is = is })
        (λ none. absurd (omega (arith, none.1)))
        (out (end_in ends one.to) [] o h)
    first false e h = absurd (omega (arith, h.1))

pub no_length : (xs : List ℕ) → length xs ≡ 0 → xs ≡ []
no_length [] e = refl
no_length (x ∷ xs) e = absurd (omega (arith, e))
