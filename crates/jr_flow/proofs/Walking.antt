-- The search for the steps from one point.
use Rattle.std.proofs.Common.{◌≡◌, ◌⊎◌, inl, inr, refl, sym, ◌∙◌, subst, ap, arith, ℕ, zero, suc, ◌+◌, ◌<◌, ◌≤◌, Bool, true, false, List, [], ◌∷◌, ◌++◌, length, map, ⊎_elim, Option, Some, None}
use Rattle.std.specs.List.{Contains}
use Rattle.std.proofs.lemmas.Bool.{false≢true, cases_lt}
use Rattle.std.proofs.lemmas.Option.{none-some, same_Some}
use Rattle.std.proofs.lemmas.List.Elements.{Contains-append_left, Contains-append_right, Contains-append_cases, Contains-push, Contains-push_cases}
use Rattle.std.specs.List.Sorted.{IsPermutation}
use Rattle.std.proofs.lemmas.List.Sorted.{Contains-permutation, IsPermutation-map, IsPermutation-sym}
use Rattle.jr_flow_defs.specs.Paths.{Flow, Goes, IsPoint, Onward, Steps}
use Rattle.jr_flow_defs.specs.Graphs.{StepList}
use Rattle.jr_places.specs.declared.stamps.Stamps.{Stamps}
use Rattle.jr_places.specs.Stamps.{is_stamped, IsStamping, IsEmptied, AddsStamp}
use Rattle.jr_flow.specs.declared.states.States.{States}
use Rattle.jr_flow.specs.declared.point.Step.{Step}
use Rattle.jr_flow.specs.Reached.{step_seen}
use Rattle.jr_flow.specs.Located.{states_in}
use Rattle.jr_flow.specs.Explored.{HasNumberedStep}
use Rattle.jr_flow.specs.Walked.{number_in, IsFlowOf, OnwardIn, NoLonger, LeadsTo, AreEnds, end_in, opened, IsMetOrOpen, AreSound, IsWalking, HasSteps, HaveSteps, AreDrawn}
use Rattle.jr_flow.proofs.Exploring.{here}
use Rattle.jr_flow.proofs.Shortening.{counted, end_leads, end_inside, opened_has, opened_from}

-- where a number was met before it is added, all that is met then was met before
pub met_before : (met added : Stamps) (count to : ℕ) → AddsStamp met added count to false → to < count → (k : ℕ) → is_stamped added k ≡ true → is_stamped met k ≡ true
met_before met added count to adds lt k e = ⊎_elim (λ early. early) (λ same. subst (λ x. is_stamped met x ≡ true) same (adds.was lt refl)) (adds.out k e)

module _ (states : States) (g : Flow ℕ) (ends : List ℕ) (flow : IsFlowOf states g) (are : AreEnds states g ends) (i m : ℕ) (t : Bool) (inside : i < length (states_in states.locations)) (at_i : number_in states i ≡ Some m) (old : StepList) where
  abbrev bound : ℕ
  bound = length (states_in states.locations)

  -- from what is opened of a place, all that was behind the place
  opened_behind : (k : ℕ) (s : Bool) (o b : ℕ) → k < bound → Contains (opened ends s (g.hops k)) o → Onward g o b → (r : ℕ) × Contains (g.hops k) (record { to = r; is_throw = s }) × Onward g r b
  opened_behind k s o b lt among onward = let one = opened_from ends s (g.hops k) o among in
      (one.to, one.among, (end_leads states g ends one.to are).back b (subst (λ e. Onward g e b) (sym one.is) onward))

  opened_inside : (k : ℕ) (s : Bool) (o : ℕ) → k < bound → Contains (opened ends s (g.hops k)) o → o < bound
  opened_inside k s o lt among = let one = opened_from ends s (g.hops k) o among in
      subst (λ e. e < bound) one.is (end_inside states g ends one.to are (flow.inside k one.to lt (record { is_throw = s; hop = one.among })))

  pub walk_begun : (met : Stamps) → IsEmptied met bound → AreSound g (number_in states) old → IsWalking states g ends i m t old met ([] ++ opened ends t (g.hops i)) old
  walk_begun met empty sound = record {
    counted = empty.counted;
    points = λ k j e f. absurd (false≢true (sym (empty.none k) ∙ e));
    others = λ k r e f goes. absurd (false≢true (sym (empty.none k) ∙ e));
    begun = λ r among. inr (opened_has ends t (g.hops i) r among);
    behind = λ o b among onward. let one = opened_behind i t o b inside among onward in record { from = flow.numbered i m at_i; next = one.0; hop = one.1; onward = one.2 };
    inside = λ o among. opened_inside i t o inside among;
    kept = λ x h. h;
    sound = sound;
  }

  module _ (met added : Stamps) (rest : List ℕ) (to : ℕ) (steps : StepList) (h : IsWalking states g ends i m t old met (rest ++ to ∷ []) steps) where
    to_inside : to < bound
    to_inside = h.inside to (Contains-push rest to)

    -- what was met or open is so, where the last one that was open is met
    still : (more : List ℕ) (e : ℕ) → ((k : ℕ) → is_stamped met k ≡ true → is_stamped added k ≡ true) → is_stamped added to ≡ true → IsMetOrOpen met (rest ++ to ∷ []) e → IsMetOrOpen added (rest ++ more) e
    still more e kept met_to (inl stamped) = inl (kept e stamped)
    still more e kept met_to (inr among) = ⊎_elim (λ early. inr (Contains-append_left rest more e early)) (λ last. inl (subst (λ k. is_stamped added k ≡ true) last met_to)) (Contains-push_cases rest to e among)

    still_here : (e : ℕ) → ((k : ℕ) → is_stamped met k ≡ true → is_stamped added k ≡ true) → is_stamped added to ≡ true → IsMetOrOpen met (rest ++ to ∷ []) e → IsMetOrOpen added rest e
    still_here e kept met_to (inl stamped) = inl (kept e stamped)
    still_here e kept met_to (inr among) = ⊎_elim (λ early. inr early) (λ last. inl (subst (λ k. is_stamped added k ≡ true) last met_to)) (Contains-push_cases rest to e among)

    -- it was met before
    pub walk_known : AddsStamp met added bound to false → IsWalking states g ends i m t old added rest steps
    walk_known adds = record {
      counted = adds.counted;
      points = λ k j e f. h.points k j (was k e) f;
      others = λ k r e f goes. still_here (end_in ends r) adds.kept now (h.others k r (was k e) f goes);
      begun = λ r among. still_here (end_in ends r) adds.kept now (h.begun r among);
      behind = λ o b among onward. h.behind o b (Contains-append_left rest (to ∷ []) o among) onward;
      inside = λ o among. h.inside o (Contains-append_left rest (to ∷ []) o among);
      kept = h.kept;
      sound = h.sound;
    }
      where
        now : is_stamped added to ≡ true
        now = adds.kept to (adds.was to_inside refl)

        was : (k : ℕ) → is_stamped added k ≡ true → is_stamped met k ≡ true
        was k e = met_before met added bound to adds to_inside k e

    -- it is a point
    pub walk_point : (j : ℕ) → AddsStamp met added bound to true → number_in states to ≡ Some j → IsWalking states g ends i m t old added rest (steps ++ (m, j, t) ∷ [])
    walk_point j adds at_to = record {
      counted = adds.counted;
      points = λ k n e f. ⊎_elim
          (λ early. Contains-append_left steps ((m, j, t) ∷ []) (m, n, t) (h.points k n early f))
          (λ same. subst (λ x. Contains (steps ++ (m, j, t) ∷ []) (m, x, t)) (same_Some j n (sym at_to ∙ ap (number_in states) same ∙ f)) (Contains-push steps (m, j, t)))
          (adds.out k e);
      others = λ k r e f goes. ⊎_elim
          (λ early. still_here (end_in ends r) adds.kept now (h.others k r early f goes))
          (λ same. absurd (none-some j (sym f ∙ ap (number_in states) (sym same) ∙ at_to)))
          (adds.out k e);
      begun = λ r among. still_here (end_in ends r) adds.kept now (h.begun r among);
      behind = λ o b among onward. h.behind o b (Contains-append_left rest (to ∷ []) o among) onward;
      inside = λ o among. h.inside o (Contains-append_left rest (to ∷ []) o among);
      kept = λ x among. Contains-append_left steps ((m, j, t) ∷ []) x (h.kept x among);
      sound = λ a b s among. ⊎_elim (λ early. h.sound a b s early) (λ last. subst (λ x. HasNumberedStep g (number_in states) x.0 x.1 x.2) last new_step) (Contains-push_cases steps (m, j, t) (a, b, s) among);
    }
      where
        now : is_stamped added to ≡ true
        now = (adds.new_one refl).1

        new_step : HasNumberedStep g (number_in states) m j t
        new_step = record { from = i; to = to; starts = at_i; ends = at_to; steps = h.behind to to (Contains-push rest to) (Onward.here (flow.numbered to j at_to)) }

    -- it is none, and what comes behind is opened
    pub walk_silent : AddsStamp met added bound to true → number_in states to ≡ None → IsWalking states g ends i m t old added ((rest ++ opened ends false (g.hops to)) ++ opened ends true (g.hops to)) steps
    walk_silent adds none = record {
      counted = adds.counted;
      points = λ k n e f. ⊎_elim (λ early. h.points k n early f) (λ same. absurd (none-some n (sym none ∙ ap (number_in states) same ∙ f))) (adds.out k e);
      others = λ k r e f goes. ⊎_elim
          (λ early. more (end_in ends r) (still_here (end_in ends r) adds.kept now (h.others k r early f goes)))
          (λ same. behind_to r (subst (λ x. Goes g x r) (sym same) goes))
          (adds.out k e);
      begun = λ r among. more (end_in ends r) (still_here (end_in ends r) adds.kept now (h.begun r among));
      behind = λ o b among onward. ⊎_elim
          (λ early. ⊎_elim (λ first. h.behind o b (Contains-append_left rest (to ∷ []) o first) onward) (λ plain. on_to false o b plain onward) (Contains-append_cases rest (opened ends false (g.hops to)) o early))
          (λ thrown. on_to true o b thrown onward)
          (Contains-append_cases (rest ++ opened ends false (g.hops to)) (opened ends true (g.hops to)) o among);
      inside = λ o among. ⊎_elim
          (λ early. ⊎_elim (λ first. h.inside o (Contains-append_left rest (to ∷ []) o first)) (λ plain. opened_inside to false o to_inside plain) (Contains-append_cases rest (opened ends false (g.hops to)) o early))
          (λ thrown. opened_inside to true o to_inside thrown)
          (Contains-append_cases (rest ++ opened ends false (g.hops to)) (opened ends true (g.hops to)) o among);
      kept = h.kept;
      sound = h.sound;
    }
      where
        now : is_stamped added to ≡ true
        now = (adds.new_one refl).1

        quiet : IsPoint g to → ⊥
        quiet p = let k = flow.points to p in none-some k.0 (sym none ∙ k.1)

        more : (e : ℕ) → IsMetOrOpen added rest e → IsMetOrOpen added ((rest ++ opened ends false (g.hops to)) ++ opened ends true (g.hops to)) e
        more e (inl stamped) = inl stamped
        more e (inr among) = inr (Contains-append_left (rest ++ opened ends false (g.hops to)) (opened ends true (g.hops to)) e (Contains-append_left rest (opened ends false (g.hops to)) e among))

        behind_by : (r : ℕ) (s : Bool) → Contains (g.hops to) (record { to = r; is_throw = s }) → IsMetOrOpen added ((rest ++ opened ends false (g.hops to)) ++ opened ends true (g.hops to)) (end_in ends r)
        behind_by r false hop = inr (Contains-append_left (rest ++ opened ends false (g.hops to)) (opened ends true (g.hops to)) (end_in ends r) (Contains-append_right rest (opened ends false (g.hops to)) (end_in ends r) (opened_has ends false (g.hops to) r hop)))
        behind_by r true hop = inr (Contains-append_right (rest ++ opened ends false (g.hops to)) (opened ends true (g.hops to)) (end_in ends r) (opened_has ends true (g.hops to) r hop))

        behind_to : (r : ℕ) → Goes g to r → IsMetOrOpen added ((rest ++ opened ends false (g.hops to)) ++ opened ends true (g.hops to)) (end_in ends r)
        behind_to r goes = behind_by r goes.is_throw goes.hop

        on_to : (s : Bool) (o b : ℕ) → Contains (opened ends s (g.hops to)) o → Onward g o b → Steps g i b t
        on_to s o b among onward = let one = opened_behind to s o b to_inside among onward in h.behind to b (Contains-push rest to) (Onward.on quiet (record { is_throw = s; hop = one.1 }) one.2)

  -- nothing is open
  module _ (met : Stamps) (steps : StepList) (h : IsWalking states g ends i m t old met [] steps) where
    is_met : (e : ℕ) → IsMetOrOpen met [] e → is_stamped met e ≡ true
    is_met e (inl stamped) = stamped
    is_met e (inr among) = absurd (omega (arith, among.1))

    found_in : (room n k b j : ℕ) → n ≤ room → is_stamped met k ≡ true → OnwardIn g n k b → number_in states b ≡ Some j → Contains steps (m, j, t)
    found_in room n k b j le stamped (OnwardIn.at p) e = h.points k j stamped e
    found_in zero n k b j le stamped (OnwardIn.on {n = fewer} quiet goes more) e = absurd (omega arith)
    found_in (suc room) n k b j le stamped (OnwardIn.on {n = fewer} {r = r} quiet goes more) e = let rest = (end_leads states g ends r are).on fewer b more in
        found_in room rest.hops (end_in ends r) b j (omega (arith, rest.few)) (is_met (end_in ends r) (h.others k r stamped (silent (number_in states k) refl) goes)) rest.onward e
      where
        silent : (o : Option ℕ) → number_in states k ≡ o → number_in states k ≡ None
        silent None f = f
        silent (Some x) f = absurd (quiet (flow.numbered k x f))

    pub walk_ends : HasSteps states g i m t old steps
    walk_ends = record {
      every = λ b n s e. let one = counted g s.next b s.onward in let next = (end_leads states g ends s.next are).on one.hops b one.onward in
          found_in next.hops next.hops (end_in ends s.next) b n (omega arith) (is_met (end_in ends s.next) (h.begun s.next s.hop)) next.onward e;
      kept = h.kept;
      sound = h.sound;
    }

-- ---- all points

-- the steps of both kinds from one point
pub walked_both : (states : States) (g : Flow ℕ) (ends : List ℕ) → IsFlowOf states g → AreEnds states g ends → (i m : ℕ) → i < length (states_in states.locations) → number_in states i ≡ Some m → (none one two : StepList) (met mid last : Stamps)
    → HaveSteps states g i met none → IsWalking states g ends i m false none mid [] one → IsWalking states g ends i m true one last [] two → HaveSteps states g (i + 1) last two
walked_both states g ends flow are i m inside at_i none one two met mid last h plain thrown = record { every = every; sound = thrown.sound; counted = thrown.counted }
  where
    by : (t : Bool) (n b : ℕ) → Steps g i b t → number_in states b ≡ Some n → Contains two (m, n, t)
    by false n b s e = thrown.kept (m, n, false) ((walk_ends states g ends flow are i m false inside at_i none mid one plain).every b n s e)
    by true n b s e = (walk_ends states g ends flow are i m true inside at_i one last two thrown).every b n s e

    every : (k j n b : ℕ) (t : Bool) → k < i + 1 → number_in states k ≡ Some j → Steps g k b t → number_in states b ≡ Some n → Contains two (j, n, t)
    every k j n b t lt at_k s e = ⊎_elim
        (λ early. thrown.kept (j, n, t) (plain.kept (j, n, t) (h.every k j n b t early at_k s e)))
        (λ past. let same : k ≡ i = omega (arith, lt, past) in
        subst (λ x. Contains two (x, n, t)) (same_Some m j (sym at_i ∙ ap (number_in states) (sym same) ∙ at_k)) (by t n b (subst (λ x. Steps g x b t) same s) e))
        (cases_lt k i)

pub walked_none : (states : States) (g : Flow ℕ) (i : ℕ) (met : Stamps) (steps : StepList) → number_in states i ≡ None → HaveSteps states g i met steps → HaveSteps states g (i + 1) met steps
walked_none states g i met steps none h = record { every = every; sound = h.sound; counted = h.counted }
  where
    every : (k j n b : ℕ) (t : Bool) → k < i + 1 → number_in states k ≡ Some j → Steps g k b t → number_in states b ≡ Some n → Contains steps (j, n, t)
    every k j n b t lt at_k s e = ⊎_elim (λ early. h.every k j n b t early at_k s e) (λ past. let same : k ≡ i = omega (arith, lt, past) in absurd (none-some j (sym none ∙ ap (number_in states) (sym same) ∙ at_k))) (cases_lt k i)

pub none_walked : (states : States) (g : Flow ℕ) (met : Stamps) (steps : StepList) → IsEmptied met (length (states_in states.locations)) → steps ≡ [] → HaveSteps states g 0 met steps
none_walked states g met steps empty none = record {
  every = λ i m n b t lt at_i s e. absurd (omega (arith, lt));
  sound = λ m n t among. let not = subst (λ xs. Contains xs (m, n, t)) none among in absurd (omega (arith, not.1));
  counted = empty.counted;
}

pub all_walked : (states : States) (g : Flow ℕ) (count : ℕ) (met : Stamps) (steps : StepList) → count ≡ length (states_in states.locations) → HaveSteps states g count met steps → AreDrawn states g steps
all_walked states g count met steps size h = record { every = λ i m n b t lt at_i s e. h.every i m n b t (omega (arith, lt, size)) at_i s e; sound = h.sound }

pub drawn_sorted : (states : States) (g : Flow ℕ) (old new : List Step) → IsPermutation old new → AreDrawn states g (map step_seen old) → AreDrawn states g (map step_seen new)
drawn_sorted states g old new moved h = let seen = IsPermutation-map step_seen old new moved in record {
  every = λ i m n b t lt at_i s e. Contains-permutation (map step_seen old) (map step_seen new) (m, n, t) seen (h.every i m n b t lt at_i s e);
  sound = λ m n t among. h.sound m n t (Contains-permutation (map step_seen new) (map step_seen old) (m, n, t) (IsPermutation-sym (map step_seen old) (map step_seen new) seen) among);
}
