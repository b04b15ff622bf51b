-- The order in which a type inherits two members, a step up at a time (JLS 8.4.5).
use Rattle.std.proofs.Common.{◌≡◌, ◌⊎◌, refl, sym, ◌∙◌, ap, subst, inl, inr, ⊎_elim, arith, ℕ, zero, suc, ◌+◌, ◌-◌, ◌≤◌, ◌<◌, Bool, true, false, cond, ◌||◌, List, [], ◌∷◌, length, get_or, slice_get, Option, Some, None, nat_eq, nat_lt, Decides}
use Rattle.std.proofs.lemmas.Bool.{false≢true, cases_eq, cases_lt, or_left, or_right, or_cases}
use Rattle.std.proofs.lemmas.Bool.Decides.{Decides-eqb, Decides-ltb}
use Rattle.std.proofs.lemmas.Option.{same_Some, slice_get-get_or}
use Rattle.jr_tree.specs.Rows.{Rows}
use Rattle.jr_defs.specs.Referents.{Table}
use Rattle.jr_defs.specs.Declarations.{IsType}
use Rattle.jr_defs.specs.Supertypes.{SuperAt, Super}
use Rattle.jr_defs.specs.Members.{MemberOf}
use Rattle.jr_defs.specs.Overloads.{FirstThrough, Earlier}
use Rattle.jr_plain.specs.Headed.{IsHeaded}
use Rattle.jr_plain.specs.Search.{has}
use Rattle.jr_plain.specs.Overloads.{is_earlier}
use Rattle.jr_plain.proofs.Tests.{decide}
use Rattle.jr_plain.proofs.Declared.{type_tells}
use Rattle.jr_plain.proofs.Supertyped.{super_source}
use Rattle.jr_plain.proofs.Overloaded.{earlier_tells}
use Rattle.jr_places.specs.declared.chains.Entry.{Entry}
use Rattle.jr_supers.specs.Direct.{FallsFrom, HasSupers, super_entry}
use Rattle.jr_supers.specs.Order.{IsSuperIn, AreBehind, IsOrderOf}
use Rattle.jr_supers.specs.Supers.{IsWellHeaded}
use Rattle.jr_supers.proofs.Directs.{super_adds}
use Rattle.jr_supers.proofs.Subtyped.{one_test}
use Rattle.jr_lookup.specs.declared.choice.Step.{Step}
use Rattle.jr_lookup.specs.declared.choice.Step.TheVariants as step
use Rattle.jr_lookup.specs.Choices.{IsLastWith, within_at, step_by, IsStep}

module _ (p : Rows) (t : Table) where
  -- ---- the last of a list that has a member

  pub last_start : (all : List ℕ) (d : ℕ) → IsLastWith p t all d 0 None
  last_start all d i lt = absurd (omega arith)

  last_next : (all : List ℕ) (d n next : ℕ) (before : Option ℕ) (held : Bool) → next ≡ suc n → Decides held (MemberOf p t (get_or all n 0) d) → held ≡ false → IsLastWith p t all d n before → IsLastWith p t all d next before
  last_next all d n next None held on tells apart h = λ i lt k. ⊎_elim (λ same. false≢true (sym apart ∙ tells.1 (subst (λ j. MemberOf p t (get_or all j 0) d) same k))) (λ other. h i (omega (arith, on)) k) (cases_eq i n)
  last_next all d n next (Some m) held on tells apart h = let lt = h.0 in (
    omega (arith, on),
    h.1,
    λ i low high k. ⊎_elim (λ same. false≢true (sym apart ∙ tells.1 (subst (λ j. MemberOf p t (get_or all j 0) d) same k))) (λ other. h.2 i low (omega (arith, on)) k) (cases_eq i n),
  )

  last_found : (all : List ℕ) (d n next : ℕ) (held : Bool) → next ≡ suc n → Decides held (MemberOf p t (get_or all n 0) d) → held ≡ true → IsLastWith p t all d next (Some n)
  last_found all d n next held on tells is = (omega (arith, on), tells.0 is, λ i low high k. absurd (omega (arith, on)))

  pub last_step : (all : List ℕ) (d n next : ℕ) (before now : Option ℕ) (held : Bool) → next ≡ suc n → Decides held (MemberOf p t (get_or all n 0) d) → now ≡ cond held (Some n) before → IsLastWith p t all d n before → IsLastWith p t all d next now
  last_step all d n next before now true on tells is h = subst (λ m. IsLastWith p t all d next m) (sym is) (last_found all d n next true on tells refl)
  last_step all d n next before now false on tells is h = subst (λ m. IsLastWith p t all d next m) (sym is) (last_next all d n next before false on tells refl h)

  -- ---- places of supertypes

  module _ (c : ℕ) where
    place : (n : ℕ) (all : List ℕ) → FallsFrom p t c n all → ℕ → ℕ
    place n [] h i = 0
    place n (s ∷ more) h zero = h.0
    place n (s ∷ more) h (suc i) = place h.0 more h.4 i

    place_at : (n : ℕ) (all : List ℕ) (h : FallsFrom p t c n all) (i : ℕ) → i < length all → SuperAt p t c (place n all h i) (get_or all i 0)
    unfolding place
    place_at n [] h i lt = absurd (omega arith)
    place_at n (s ∷ more) h zero lt = h.2
    place_at n (s ∷ more) h (suc i) lt = place_at h.0 more h.4 i (omega arith)

    place_below : (n : ℕ) (all : List ℕ) (h : FallsFrom p t c n all) (i : ℕ) → i < length all → place n all h i < n
    unfolding place
    place_below n [] h i lt = absurd (omega arith)
    place_below n (s ∷ more) h zero lt = h.1
    place_below n (s ∷ more) h (suc i) lt = let low = place_below h.0 more h.4 i (omega arith) in let high = h.1 in omega arith

    place_falls : (n : ℕ) (all : List ℕ) (h : FallsFrom p t c n all) (i j : ℕ) → i < j → j < length all → place n all h j < place n all h i
    unfolding place
    place_falls n [] h i j lt le = absurd (omega arith)
    place_falls n (s ∷ more) h i zero lt le = absurd (omega arith)
    place_falls n (s ∷ more) h zero (suc j) lt le = place_below h.0 more h.4 j (omega arith)
    place_falls n (s ∷ more) h (suc i) (suc j) lt le = place_falls h.0 more h.4 i j (omega arith) (omega arith)

    place_of : (n : ℕ) (all : List ℕ) (h : FallsFrom p t c n all) (k r : ℕ) → k < n → SuperAt p t c k r → (i : ℕ) × (i < length all) × (place n all h i ≡ k)
    unfolding place
    place_of n [] h k r lt at = absurd (h k r lt at)
    place_of n (s ∷ more) h k r lt at = ⊎_elim (λ same. (zero, omega arith, sym same))
        (λ apart. ⊎_elim (λ low. let i = place_of h.0 more h.4 k r low at in let less = i.1 in (suc i.0, omega arith, i.2)) (λ high. absurd (h.3 k r (omega arith) lt at)) (cases_lt k h.0)) (cases_eq k h.0)

    module _ (well : IsWellHeaded p) where
      one_super : (n r s : ℕ) → SuperAt p t c n r → SuperAt p t c n s → r ≡ s
      one_super n r s h k = ap (λ e. e.row) (same_Some (super_entry c r) (super_entry c s) (sym (super_adds p t well.headed well.one well.first n c r h).1 ∙ (super_adds p t well.headed well.one well.first n c s k).1))

      at_below : (n s : ℕ) → SuperAt p t c n s → n < length p
      at_below n s h = (super_adds p t well.headed well.one well.first n c s h).0

      one_place : (d m n r s : ℕ) → FirstThrough p t c m r d → FirstThrough p t c n s d → m ≡ n
      one_place d m n r s f g = ⊎_elim (λ lt. absurd (g.first m r lt f.at f.member)) (λ le. ⊎_elim (λ lt. absurd (f.first n s lt g.at g.member)) (λ ge. omega arith) (cases_lt n m)) (cases_lt m n)

      module _ (all : List ℕ) (h : FallsFrom p t c (length p) all) where
        at : ℕ → ℕ
        at i = place (length p) all h i

        through : (d n : ℕ) → IsLastWith p t all d (length all) (Some n) → FirstThrough p t c (at n) (get_or all n 0) d
        unfolding at
        through d n last = record { at = place_at (length p) all h n last.0; member = last.1; first = first }
          where
            first : (m r : ℕ) → m < place (length p) all h n → SuperAt p t c m r → MemberOf p t r d → ⊥
            first m r lt at member =
                let i = place_of (length p) all h m r (at_below m r at) at in
                let less = i.1 in
                let is = i.2 in
                ⊎_elim (λ behind. last.2 i.0 behind i.1 (subst (λ s. MemberOf p t s d) (one_super m r (get_or all i.0 0) at (subst (λ k. SuperAt p t c k (get_or all i.0 0)) is (place_at (length p) all h i.0 i.1))) member))
                (λ before. ⊎_elim (λ same. let equal = ap (place (length p) all h) same in omega (arith, lt, is, equal)) (λ apart. let falls = place_falls (length p) all h i.0 n (omega arith) last.0 in omega (arith, lt, is, falls)) (cases_eq i.0 n))
                (cases_lt n i.0)

        no_through : (d m r : ℕ) → IsLastWith p t all d (length all) None → FirstThrough p t c m r d → ⊥
        no_through d m r none f =
            let i = place_of (length p) all h m r (at_below m r f.at) f.at in
            none i.0 i.1 (subst (λ s. MemberOf p t s d) (one_super m r (get_or all i.0 0) f.at (subst (λ k. SuperAt p t c k (get_or all i.0 0)) i.2 (place_at (length p) all h i.0 i.1))) f.member)

        at_falls : (i j : ℕ) → i < j → j < length all → at j < at i
        unfolding at
        at_falls i j lt le = place_falls (length p) all h i j lt le

        at_super : (i : ℕ) → i < length all → SuperAt p t c (at i) (get_or all i 0)
        unfolding at
        at_super i lt = place_at (length p) all h i lt

        -- ---- what the places say

        module _ (d e : ℕ) where
          first_of : Earlier p t c d e → (m : ℕ) × (r : ℕ) × FirstThrough p t c m r d
          first_of (Earlier.by_place {m = m} {r = r} f g lt) = (m, r, f)
          first_of (Earlier.within {n = n} {s = s} f g k) = (n, s, f)

          second_of : Earlier p t c d e → (n : ℕ) × (s : ℕ) × FirstThrough p t c n s e
          second_of (Earlier.by_place {n = n} {s = s} f g lt) = (n, s, g)
          second_of (Earlier.within {n = n} {s = s} f g k) = (n, s, g)

          module _ (m n : ℕ) (one : IsLastWith p t all d (length all) (Some m)) (other : IsLastWith p t all e (length all) (Some n)) where
            no_later : m < n → Earlier p t c d e → ⊥
            no_later lt (Earlier.by_place {m = i} {n = j} {r = r} {s = s} f g less) =
                let a = one_place d i (at m) r (get_or all m 0) f (through d m one) in
                let b = one_place e j (at n) s (get_or all n 0) g (through e n other) in
                let falls = at_falls m n lt other.0 in omega (arith, less, a, b, falls)
            no_later lt (Earlier.within {n = i} {s = s} f g k) =
                let a = one_place d i (at m) s (get_or all m 0) f (through d m one) in
                let b = one_place e i (at n) s (get_or all n 0) g (through e n other) in
                let falls = at_falls m n lt other.0 in omega (arith, a, b, falls)

            down : m ≡ n → Earlier p t c d e → Earlier p t (get_or all m 0) d e
            down same (Earlier.by_place {m = i} {n = j} {r = r} {s = s} f g less) =
                let a = one_place d i (at m) r (get_or all m 0) f (through d m one) in
                let b = one_place e j (at n) s (get_or all n 0) g (through e n other) in
                let equal = ap at same in absurd (omega (arith, less, a, b, equal))
            down same (Earlier.within {n = i} {s = s} f g k) =
                let a = one_place d i (at m) s (get_or all m 0) f (through d m one) in
                subst (λ x. Earlier p t x d e) (one_super (at m) s (get_or all m 0) (subst (λ x. SuperAt p t c x s) a f.at) (at_super m one.0)) k

            up : m ≡ n → Earlier p t (get_or all m 0) d e → Earlier p t c d e
            up same k = Earlier.within (through d m one) (subst (λ i. FirstThrough p t c (at i) (get_or all i 0) e) (sym same) (through e n other)) k

            both_found : (lt : Bool) → Decides lt (n < m) → (eq : Bool) → Decides eq (m ≡ n) → IsStep p t c d e (cond lt step.Earlier (cond eq (within_at (slice_get all m)) step.Later))
            both_found true less eq same = Earlier.by_place (through d m one) (through e n other) (at_falls n m (less.0 refl) one.0)
            both_found false less true same = subst (λ s. IsStep p t c d e (within_at s)) (sym (slice_get-get_or all m 0 one.0))
                (record { place = at m; at = at_super m one.0 }, down (same.0 refl), up (same.0 refl))
            both_found false less false same = no_later (⊎_elim (λ h. absurd (false≢true (less.1 h))) (λ le. ⊎_elim (λ e. absurd (false≢true (same.1 e))) (λ apart. omega arith) (cases_eq m n)) (cases_lt n m))

          pub step_is : (m n : Option ℕ) → IsLastWith p t all d (length all) m → IsLastWith p t all e (length all) n → IsStep p t c d e (step_by all m n)
          step_is None n one other = λ k. let f = first_of k in no_through d f.0 f.1 one f.2
          step_is (Some m) None one other = λ k. let g = second_of k in no_through e g.0 g.1 other g.2
          step_is (Some m) (Some n) one other = both_found m n one other (nat_lt n m) (Decides-ltb n m) (nat_eq m n) (Decides-eqb m n)

  -- ---- the way up ends

  -- each way up from b ends in less than so many steps
  abbrev pub EndsUp : ℕ → ℕ → Type 0
  EndsUp zero b = ⊥
  EndsUp (suc n) b = (s : ℕ) → Super p t b s → EndsUp n s

  ends_within : (n k b : ℕ) → n ≤ k → EndsUp n b → EndsUp k b
  ends_within zero k b le h = absurd h
  ends_within (suc n) zero b le h = absurd (omega arith)
  ends_within (suc n) (suc k) b le h = λ s up. ends_within n k s (omega arith) (h s up)

  module _ (headed : IsHeaded p) (supers : List Entry) (listed : HasSupers p t supers) where
    top_ends : (n b : ℕ) → (IsType p b → ⊥) → EndsUp (suc n) b
    top_ends n b apart = λ s up. absurd (apart (super_source p t headed b s up))

    next_ends : (n c : ℕ) (done : List ℕ) → ((s : ℕ) → IsSuperIn supers c s → IsType p s → has done s ≡ true) → ((s : ℕ) → has done s ≡ true → EndsUp (suc n) s) → EndsUp (suc (suc n)) c
    next_ends n c done behind ends s up = ⊎_elim (λ type. ends s (behind s ((listed.each c s).1 up) type)) (λ apart. top_ends n s apart) (decide (type_tells p s))

    done_ends : (done rest : List ℕ) → AreBehind p supers done rest → ((c : ℕ) → has done c ≡ true → EndsUp (suc (length done)) c) → (c : ℕ) → (has done c ≡ true) ⊎ (has rest c ≡ true)
        → EndsUp (suc (length done + length rest)) c
    done_ends done [] behind ends c at = ends_within (suc (length done)) (suc (length done + 0)) c (omega arith) (⊎_elim (λ a. ends c a) (λ a. absurd (false≢true a)) at)
    done_ends done (x ∷ rest) behind ends c at = ends_within (suc (suc (length done) + length rest)) (suc (length done + suc (length rest))) c (omega arith)
        (done_ends (x ∷ done) rest behind.2 (λ y k. more y (⊎_elim (λ e. inl ((Decides-eqb x y).0 e)) (λ a. inr a) (or_cases (nat_eq x y) (has done y) k))) c (moved at))
      where
        more : (y : ℕ) → (x ≡ y) ⊎ (has done y ≡ true) → EndsUp (suc (suc (length done))) y
        more y (inl same) = subst (λ z. EndsUp (suc (suc (length done))) z) same (next_ends (length done) x done behind.1 ends)
        more y (inr k) = ends_within (suc (length done)) (suc (suc (length done))) y (omega arith) (ends y k)

        moved : (has done c ≡ true) ⊎ (has (x ∷ rest) c ≡ true) → (has (x ∷ done) c ≡ true) ⊎ (has rest c ≡ true)
        moved (inl a) = inl (or_right _ (has done c) a)
        moved (inr a) = ⊎_elim (λ e. inl (or_left _ (has done c) e)) (λ b. inr b) (or_cases _ (has rest c) a)

    all_end : (order : List ℕ) → IsOrderOf p supers order → (c : ℕ) → EndsUp (suc (length order)) c
    all_end order h c = ⊎_elim (λ type. ends_within (suc (0 + length order)) (suc (length order)) c (omega arith) (done_ends [] order h.behind (λ y k. absurd (false≢true k)) c (inr (h.all c type))))
        (λ apart. top_ends (length order) c apart) (decide (type_tells p c))

  -- ---- the walk

  -- b has d before e just where c has, and the way up from b ends in less than so many turns
  pub record IsWalking (c d e b turns : ℕ) : Type 0 where
    pub leads : Earlier p t c d e → Earlier p t b d e
    pub back : Earlier p t b d e → Earlier p t c d e
    pub ends : EndsUp turns b

  module _ (c d e : ℕ) where
    pub walk_start : IsHeaded p → (supers : List Entry) (order : List ℕ) (turns : ℕ) → HasSupers p t supers → IsOrderOf p supers order → turns ≡ suc (length order) → IsWalking c d e c turns
    walk_start headed supers order turns listed ordered enough = record {
      leads = λ k. k;
      back = λ k. k;
      ends = subst (λ n. EndsUp n c) (sym enough) (all_end headed supers listed order ordered c);
    }

    ends_next : (turns b s : ℕ) → EndsUp turns b → Super p t b s → EndsUp (turns - 1) s
    ends_next zero b s ends up = absurd ends
    ends_next (suc n) b s ends up = let less : n ≡ suc n - 1 = omega arith in subst (λ k. EndsUp k s) less (ends s up)

    pub walk_next : (turns left b s : ℕ) (is : Step) → left ≡ turns - 1 → is ≡ step.Within s → IsStep p t b d e is → IsWalking c d e b turns → IsWalking c d e s left
    walk_next turns left b s is less within said w = let h = subst (λ x. IsStep p t b d e x) within said in record {
      leads = λ k. h.1 (w.leads k);
      back = λ k. w.back (h.2 k);
      ends = subst (λ n. EndsUp n s) (sym less) (ends_next turns b s w.ends h.0);
    }

    pub walk_earlier : (turns b : ℕ) (is : Step) → is ≡ step.Earlier → IsStep p t b d e is → IsWalking c d e b turns → Decides true (Earlier p t c d e)
    walk_earlier turns b is found said w = (λ h. w.back (subst (λ x. IsStep p t b d e x) found said), λ h. refl)

    pub walk_later : (turns b : ℕ) (is : Step) → is ≡ step.Later → IsStep p t b d e is → IsWalking c d e b turns → Decides false (Earlier p t c d e)
    walk_later turns b is found said w = (λ h. absurd (false≢true h), λ k. absurd (subst (λ x. IsStep p t b d e x) found said (w.leads k)))

    pub walk_past : (turns b : ℕ) (is : Bool) → turns ≡ 0 → IsWalking c d e b turns → Decides is (Earlier p t c d e)
    walk_past turns b is past w = absurd (subst (λ n. EndsUp n b) past w.ends)

  -- the one is the other, or comes before it
  pub before_is : IsHeaded p → (c d e : ℕ) (is : Bool) → Decides is (Earlier p t c d e) → nat_eq d e ≡ false → is ≡ (nat_eq d e || is_earlier p t c d e)
  before_is headed c d e is tells apart = one_test is (is_earlier p t c d e) (Earlier p t c d e) tells (earlier_tells p t headed c d e) ∙ ap (λ b. b || is_earlier p t c d e) (sym apart)
