-- Collected types, each once, with all that stands above them.
use Rattle.std.proofs.Common.{◌≡◌, ◌⊎◌, refl, sym, ◌∙◌, ap, subst, inl, inr, ⊎_elim, arith, ℕ, zero, suc, ◌<◌, ◌≤◌, Bool, true, false, cond, ◌&&◌, ◌||◌, List, [], ◌∷◌, ◌++◌, Option, Some, None, nat_eq, Decides}
use Rattle.std.proofs.lemmas.Bool.{false≢true, or_left, or_right, or_cases}
use Rattle.std.proofs.lemmas.Bool.Decides.{Decides-eqb}
use Rattle.std.proofs.lemmas.List.Folds.{list_any-append}
use Rattle.std.proofs.lemmas.Option.{none-some, same_Some}
use Rattle.jr_tree.specs.Rows.{Rows}
use Rattle.jr_defs.specs.Referents.{Table}
use Rattle.jr_defs.specs.Declarations.{IsType}
use Rattle.jr_defs.specs.Supertypes.{Super}
use Rattle.jr_plain.specs.Search.{has, Lists, Reaches}
use Rattle.jr_plain.specs.Headed.{IsHeaded}
use Rattle.jr_plain.proofs.Tests.{itself, either, like}
use Rattle.jr_plain.proofs.Searches.{flat_of}
use Rattle.jr_plain.proofs.Supertyped.{super_source}
use Rattle.jr_places.specs.declared.chains.Entry.{Entry}
use Rattle.jr_supers.specs.Pairs.{has_pair, uppers}
use Rattle.jr_supers.specs.Found.{with_item, with_items, IsFound}
use Rattle.jr_supers.specs.Above.{Tables, link_at, up_of, depth_of, up_at, walk, with_uppers, climbed, with_above, with_all_above, unless_above, open_up, open_chain, at_or_above, IsKnown, OnChain, AreAbove}
use Rattle.jr_supers.proofs.Keys.{uppers_tell, pair_pushed}
use Rattle.jr_supers.proofs.Chained.{rises}
use Rattle.jr_supers.proofs.Telling.{reaches_then, reaches_source, pair_reaches, reaches_found}

-- ---- one number more

pub found_more : {seen more : List Entry} {all out : List ℕ} (x : ℕ) → IsFound seen all → more ≡ seen ++ record { first = 0; second = x; row = x } ∷ [] → out ≡ all ++ x ∷ [] → IsFound more out
found_more {seen} {more} {all} {out} x h pushed put = record {
  same = λ y. ap (λ es. has_pair es 0 y) pushed ∙ pair_pushed seen (record { first = 0; second = x; row = x }) 0 y
      ∙ swapped (nat_eq 0 0) (nat_eq x y) (has_pair seen 0 y) ((Decides-eqb 0 0).1 refl) ∙ ap (λ b. b || (nat_eq x y || false)) (h.same y)
      ∙ sym (list_any-append (λ k. nat_eq k y) all (x ∷ [])) ∙ ap (λ xs. has xs y) (sym put);
}
  where
    swapped : (a b c : Bool) → a ≡ true → ((a && b) || c) ≡ (c || (b || false))
    swapped true true true e = refl
    swapped true true false e = refl
    swapped true false true e = refl
    swapped true false false e = refl
    swapped false b c e = absurd (false≢true e)

with_item_by : (all : List ℕ) (x y : ℕ) (b : Bool) → has all x ≡ b → Decides (has (cond b all (all ++ x ∷ [])) y) ((has all y ≡ true) ⊎ (x ≡ y))
with_item_by all x y true there = (λ h. inl h, ⊎_elim (λ h. h) (λ e. subst (λ z. has all z ≡ true) e there))
with_item_by all x y false there = (
  λ h. ⊎_elim (λ k. inl k) (λ k. inr ((Decides-eqb x y).0 (⊎_elim (λ e. e) (λ n. absurd (false≢true n)) (or_cases (nat_eq x y) false k))))
      (or_cases (has all y) (has (x ∷ []) y) (sym (list_any-append (λ k. nat_eq k y) all (x ∷ [])) ∙ h)),
  λ h. list_any-append (λ k. nat_eq k y) all (x ∷ []) ∙ ⊎_elim (λ k. or_left (has all y) (has (x ∷ []) y) k) (λ e. or_right (has all y) (has (x ∷ []) y) (or_left (nat_eq x y) false ((Decides-eqb x y).1 e))) h,
)

pub with_items_tell : (all xs : List ℕ) (y : ℕ) → Decides (has (with_items all xs) y) ((has all y ≡ true) ⊎ (has xs y ≡ true))
with_items_tell all [] y = (λ h. inl h, ⊎_elim (λ h. h) (λ n. absurd (false≢true n)))
with_items_tell all (x ∷ xs) y = like (with_items_tell (with_item all x) xs y)
    (⊎_elim (λ h. ⊎_elim (λ k. inl k) (λ e. inr (or_left (nat_eq x y) (has xs y) ((Decides-eqb x y).1 e))) ((with_item_by all x y (has all x) refl).0 h)) (λ k. inr (or_right (nat_eq x y) (has xs y) k)))
    (⊎_elim (λ h. inl ((with_item_by all x y (has all x) refl).1 (inl h)))
    (λ k. ⊎_elim (λ e. inl ((with_item_by all x y (has all x) refl).1 (inr ((Decides-eqb x y).0 e)))) (λ k. inr k) (or_cases (nat_eq x y) (has xs y) k)))

-- ---- types with all that stands above them

module _ (p : Rows) (t : Table) (T : Tables) (A : AreAbove p t T) where
  abbrev pub Rests : ℕ → ℕ → Type 0
  Rests c s = (c ≡ s) ⊎ Reaches (Super p t) c s

  uppers_in : (n s : ℕ) → Decides (has (with_uppers T.pairs n) s) ((n ≡ s) ⊎ (has_pair T.pairs n s ≡ true))
  uppers_in n s = like (either (Decides-eqb n s) (itself (has (uppers T.pairs n) s))) (⊎_elim (λ e. inl e) (λ h. inr (sym (uppers_tell T.pairs n s) ∙ h))) (⊎_elim (λ e. inl e) (λ h. inr (uppers_tell T.pairs n s ∙ h)))

  -- the types of which P holds stand together with all above them
  abbrev pub IsUpward : (ℕ → Type 0) → Type 0
  IsUpward P = (r s : ℕ) → P r → Super p t r s → P s

  upward_reaches : (P : ℕ → Type 0) → IsUpward P → (r s : ℕ) → P r → Reaches (Super p t) r s → P s
  upward_reaches P up r s h (Reaches.direct d) = up r s h d
  upward_reaches P up r s h (Reaches.further {r = q} d more) = upward_reaches P up q s (up r q h d) more

  -- P holds of these, and what stands right above them is there too, or comes next
  pub record IsCollected (P : ℕ → Type 0) (next : Option ℕ) (all : List ℕ) : Type 0 where
    pub sound : (s : ℕ) → has all s ≡ true → P s
    pub closed : (r s : ℕ) → has all r ≡ true → Super p t r s → (has all s ≡ true) ⊎ (next ≡ Some s)

  -- the type may be collected
  abbrev pub IsFit : (ℕ → Type 0) → ℕ → Type 0
  IsFit P n = P n × (IsType p n → IsKnown T.links n)

  -- these are collected, with what was there before and what was to come
  record Collects (P : ℕ → Type 0) (next : Option ℕ) (all out : List ℕ) : Type 0 where
    done : IsCollected P None out
    kept : (s : ℕ) → has all s ≡ true → has out s ≡ true
    came : (n : ℕ) → next ≡ Some n → has out n ≡ true

  all_reach : (P : ℕ → Type 0) (all : List ℕ) → IsCollected P None all → (r s : ℕ) → has all r ≡ true → Reaches (Super p t) r s → has all s ≡ true
  all_reach P all h r s at (Reaches.direct d) = ⊎_elim (λ k. k) (λ e. absurd (none-some s e)) (h.closed r s at d)
  all_reach P all h r s at (Reaches.further {r = q} d more) = all_reach P all h q s (⊎_elim (λ k. k) (λ e. absurd (none-some q e)) (h.closed r q at d)) more

  module _ (headed : IsHeaded p) (P : ℕ → Type 0) (up : IsUpward P) where
    fit_up : (n u : ℕ) → IsFit P n → up_at T.links n ≡ Some u → IsFit P u
    fit_up n u h e = let r = rises p t T A n u e in (up n u h.0 r.6, λ type. (r.1, r.3))

    -- where nothing comes next
    at_end : (next : Option ℕ) (all : List ℕ) → IsCollected P next all → ((s : ℕ) → next ≡ Some s → has all s ≡ true) → Collects P next all all
    at_end next all h there = record {
      done = record { sound = h.sound; closed = λ r s at d. inl (⊎_elim (λ k. k) (λ e. there s e) (h.closed r s at d)) };
      kept = λ s k. k;
      came = there;
    }

    -- one type more, with what has a pair with it
    one_more : (n : ℕ) (all : List ℕ) → IsFit P n → IsCollected P (Some n) all → IsCollected P (up_at T.links n) (with_items all (with_uppers T.pairs n))
    one_more n all fit h = record {
      sound = λ s at. ⊎_elim (λ k. h.sound s k) (λ k. ⊎_elim (λ e. subst P e fit.0) (λ k. upward_reaches P up n s fit.0 (A.sound n s k)) ((uppers_in n s).0 k)) ((with_items_tell all (with_uppers T.pairs n) s).0 at);
      closed = λ r s at d. ⊎_elim (λ k. inl (⊎_elim (λ k. old s k) (λ e. new s (inl (same_Some n s e))) (h.closed r s k d)))
          (λ k. ⊎_elim (λ e. over s (subst (λ x. Super p t x s) (sym e) d)) (λ k. inl (new s (inr (A.closed n r s k d)))) ((uppers_in n r).0 k)) ((with_items_tell all (with_uppers T.pairs n) r).0 at);
    }
      where
        old : (s : ℕ) → has all s ≡ true → has (with_items all (with_uppers T.pairs n)) s ≡ true
        old s k = (with_items_tell all (with_uppers T.pairs n) s).1 (inl k)

        new : (s : ℕ) → (n ≡ s) ⊎ (has_pair T.pairs n s ≡ true) → has (with_items all (with_uppers T.pairs n)) s ≡ true
        new s k = (with_items_tell all (with_uppers T.pairs n) s).1 (inr ((uppers_in n s).1 k))

        over : (s : ℕ) → Super p t n s → (has (with_items all (with_uppers T.pairs n)) s ≡ true) ⊎ (up_at T.links n ≡ Some s)
        over s d = let l = fit.1 (super_source p t headed n s d) in ⊎_elim (λ e. inr (ap up_of l.1 ∙ e)) (λ k. inl (new s (inr k))) ((A.each n l.0 l.1).supers s d)

    climb_collects : (turns : ℕ) (next : Option ℕ) (all : List ℕ) → ((n : ℕ) → next ≡ Some n → IsFit P n × (depth_of (link_at T.links n) < turns)) → IsCollected P next all
        → Collects P next all (climbed T.links T.pairs turns next all)
    climb_collects zero next all fit h = at_end next all h (λ s e. let lt = (fit s e).1 in absurd (omega arith))
    climb_collects (suc turns) None all fit h = at_end None all h (λ s e. absurd (none-some s e))
    climb_collects (suc turns) (Some n) all fit h = by (has all n) refl (climb_collects turns (up_at T.links n) (with_items all (with_uppers T.pairs n)) fits (one_more n all (fit n refl).0 h))
      where
        fits : (u : ℕ) → up_at T.links n ≡ Some u → IsFit P u × (depth_of (link_at T.links u) < turns)
        fits u e = let r = rises p t T A n u e in let d = r.5 in let lt = (fit n refl).1 in (fit_up n u (fit n refl).0 e, omega arith)

        by : (b : Bool) → has all n ≡ b → Collects P (up_at T.links n) (with_items all (with_uppers T.pairs n)) (climbed T.links T.pairs turns (up_at T.links n) (with_items all (with_uppers T.pairs n)))
            → Collects P (Some n) all (cond b all (climbed T.links T.pairs turns (up_at T.links n) (with_items all (with_uppers T.pairs n))))
        by true there more = at_end (Some n) all h (λ s e. subst (λ x. has all x ≡ true) (same_Some n s e) there)
        by false there more = record {
          done = more.done;
          kept = λ s k. more.kept s ((with_items_tell all (with_uppers T.pairs n) s).1 (inl k));
          came = λ s e. more.kept s ((with_items_tell all (with_uppers T.pairs n) s).1 (inr ((uppers_in n s).1 (inl (same_Some n s e)))));
        }

    one_collects : (c : ℕ) (all : List ℕ) → IsFit P c → IsCollected P None all → Collects P (Some c) all (with_above T.links T.pairs all c)
    one_collects c all fit h = climb_collects (suc (depth_of (link_at T.links c))) (Some c) all (λ n e. (subst (IsFit P) (same_Some c n e) fit, ap_depth n (same_Some c n e)))
        (record { sound = h.sound; closed = λ r s at d. ⊎_elim (λ k. inl k) (λ e. absurd (none-some s e)) (h.closed r s at d) })
      where
        ap_depth : (n : ℕ) → c ≡ n → depth_of (link_at T.links n) < suc (depth_of (link_at T.links c))
        ap_depth n e = let same = ap (λ x. depth_of (link_at T.links x)) e in omega arith

    nothing_yet : IsCollected P None []
    nothing_yet = record { sound = λ s at. absurd (false≢true at); closed = λ r s at d. absurd (false≢true at) }

    pub record CollectsAll (lows all out : List ℕ) : Type 0 where
      pub done : IsCollected P None out
      pub kept : (s : ℕ) → has all s ≡ true → has out s ≡ true
      pub came : (n : ℕ) → has lows n ≡ true → has out n ≡ true

    all_collect : (lows all : List ℕ) → ((n : ℕ) → has lows n ≡ true → IsFit P n) → IsCollected P None all → CollectsAll lows all (with_all_above T.links T.pairs all lows)
    all_collect [] all fit h = record { done = h; kept = λ s k. k; came = λ n at. absurd (false≢true at) }
    all_collect (c ∷ lows) all fit h = let one = one_collects c all (fit c (or_left (nat_eq c c) (has lows c) ((Decides-eqb c c).1 refl))) h in
        let more = all_collect lows (with_above T.links T.pairs all c) (λ n at. fit n (or_right (nat_eq c n) (has lows n) at)) one.done in record {
          done = more.done;
          kept = λ s k. more.kept s (one.kept s k);
          came = λ n at. ⊎_elim (λ e. more.kept n (one.came n (ap Some ((Decides-eqb c n).0 e)))) (λ k. more.came n k) (or_cases (nat_eq c n) (has lows n) at);
        }

    pub collected : (lows : List ℕ) → ((n : ℕ) → has lows n ≡ true → IsFit P n) → CollectsAll lows [] (with_all_above T.links T.pairs [] lows)
    collected lows fit = all_collect lows [] fit nothing_yet

  rests_up : (c : ℕ) → IsUpward (Rests c)
  rests_up c r s (inl e) d = inr (Reaches.direct (subst (λ x. Super p t x s) (sym e) d))
  rests_up c r s (inr k) d = inr (reaches_then k (Reaches.direct d))

  -- what stands at or above types of a list
  abbrev pub Highs : List ℕ → ℕ → Type 0
  Highs lows s = (o : ℕ) × (has lows o ≡ true) × Rests o s

  pub highs : IsHeaded p → (lows : List ℕ) → ((o : ℕ) → has lows o ≡ true → IsType p o → IsKnown T.links o) → Lists (with_all_above T.links T.pairs [] lows) (Highs lows)
  highs headed lows known s = let all = collected headed (Highs lows) (λ r s h d. (h.0, h.1, rests_up h.0 r s h.2 d)) lows (λ o at. ((o, at, inl refl), known o at)) in
      (λ at. all.done.sound s at, λ h. by h.2 (all.came h.0 h.1) all.done)
    where
      by : {o : ℕ} → Rests o s → has (with_all_above T.links T.pairs [] lows) o ≡ true → IsCollected (Highs lows) None (with_all_above T.links T.pairs [] lows) → has (with_all_above T.links T.pairs [] lows) s ≡ true
      by (inl e) at done = subst (λ x. has (with_all_above T.links T.pairs [] lows) x ≡ true) e at
      by {o = o} (inr k) at done = all_reach (Highs lows) (with_all_above T.links T.pairs [] lows) done o s at k

  -- ---- a type and all above it, as they are listed

  -- what stands above a type that has a pair with c by first supertypes has a pair with it too
  chain_closed : (c u y : ℕ) → has_pair T.pairs c u ≡ true → OnChain T.links u y → has_pair T.pairs c y ≡ true
  chain_closed c u _ h OnChain.here = h
  chain_closed c u y h (OnChain.over {u = v} e on) = let r = rises p t T A u v e in chain_closed c v y (A.closed c u v h r.6) on

  open_is : (c : ℕ) (o : Option ℕ) (u : ℕ) → unless_above T.pairs c o ≡ Some u → o ≡ Some u
  open_is c None u e = absurd (none-some u e)
  open_is c (Some v) u e = by (has_pair T.pairs c v) e
    where
      by : (b : Bool) → cond b None (Some v) ≡ Some u → Some v ≡ Some u
      by true e = absurd (none-some u e)
      by false e = e

  abbrev Walked : ℕ → ℕ → Option ℕ → List ℕ
  Walked c turns at = walk (open_up T.links T.pairs c) turns at

  walked_out : (c turns n y : ℕ) → has (Walked c turns (Some n)) y ≡ true → OnChain T.links n y
  walked_out c zero n y h = absurd (false≢true h)
  walked_out c (suc turns) n y h = ⊎_elim (λ e. subst (λ z. OnChain T.links n z) ((Decides-eqb n y).0 e) OnChain.here) (λ k. by turns (open_up T.links T.pairs c n) refl k (λ u. walked_out c turns u y))
      (or_cases (nat_eq n y) (has (Walked c turns (open_up T.links T.pairs c n)) y) h)
    where
      by : (turns : ℕ) (o : Option ℕ) → open_up T.links T.pairs c n ≡ o → has (Walked c turns o) y ≡ true → ((u : ℕ) → has (Walked c turns (Some u)) y ≡ true → OnChain T.links u y) → OnChain T.links n y
      by zero None e h more = absurd (false≢true h)
      by (suc turns) None e h more = absurd (false≢true h)
      by turns (Some u) e h more = OnChain.over (open_is c (up_at T.links n) u e) (more u h)

  -- what is passed over has a pair with c
  walked_into : (c m n y : ℕ) → OnChain T.links n y → depth_of (link_at T.links n) ≤ m → (has (Walked c (suc m) (Some n)) y ≡ true) ⊎ (has_pair T.pairs c y ≡ true)
  walked_into c m n _ OnChain.here le = inl (or_left (nat_eq n n) _ ((Decides-eqb n n).1 refl))
  walked_into c zero n y (OnChain.over {u = u} e on) le = let r = rises p t T A n u e in let d = r.5 in absurd (omega arith)
  walked_into c (suc m) n y (OnChain.over {u = u} e on) le = let r = rises p t T A n u e in let d = r.5 in by (has_pair T.pairs c u) refl (walked_into c m u y on (omega arith))
    where
      by : (b : Bool) → has_pair T.pairs c u ≡ b → (has (Walked c (suc m) (Some u)) y ≡ true) ⊎ (has_pair T.pairs c y ≡ true) → (has (Walked c (suc (suc m)) (Some n)) y ≡ true) ⊎ (has_pair T.pairs c y ≡ true)
      by true there more = inr (chain_closed c u y there on)
      by false there more = ⊎_elim (λ k. inl (or_right (nat_eq n y) _ (ap (λ o. has (Walked c (suc m) o) y) (ap (unless_above T.pairs c) e ∙ ap (λ b. cond b None (Some u)) there) ∙ k))) (λ k. inr k) more

  on_rests : (c y : ℕ) → OnChain T.links c y → Rests c y
  on_rests c _ OnChain.here = inl refl
  on_rests c y (OnChain.over {u = u} e on) = let r = rises p t T A c u e in
      ⊎_elim (λ same. inr (Reaches.direct (subst (λ x. Super p t c x) same r.6))) (λ k. inr (Reaches.further r.6 k)) (on_rests u y on)

  pub rests : IsHeaded p → (c : ℕ) → (IsType p c → IsKnown T.links c) → Lists (at_or_above T.links T.pairs c) (Rests c)
  rests headed c all s = like (flat_of nat_eq (with_uppers T.pairs) (open_chain T.links T.pairs c) (λ y. itself (has (open_chain T.links T.pairs c) y)) s) out into
    where
      out : (y : ℕ) × (has (open_chain T.links T.pairs c) y ≡ true) × (has (with_uppers T.pairs y) s ≡ true) → Rests c s
      out h = let on = on_rests c h.0 (walked_out c (suc (depth_of (link_at T.links c))) c h.0 h.1) in
          ⊎_elim (λ e. subst (λ z. Rests c z) e on) (λ k. upward_reaches (Rests c) (rests_up c) h.0 s on (A.sound h.0 s k)) ((uppers_in h.0 s).0 h.2)

      first : has (open_chain T.links T.pairs c) c ≡ true
      first = or_left (nat_eq c c) _ ((Decides-eqb c c).1 refl)

      below : (y : ℕ) → (y ≡ s) ⊎ (has_pair T.pairs y s ≡ true) → has_pair T.pairs c y ≡ true → has_pair T.pairs c s ≡ true
      below y (inl e) h = subst (λ z. has_pair T.pairs c z ≡ true) e h
      below y (inr k) h = pair_reaches p t T A c y s h (A.sound y s k)

      at : (y : ℕ) → OnChain T.links c y → (y ≡ s) ⊎ (has_pair T.pairs y s ≡ true) → (y : ℕ) × (has (open_chain T.links T.pairs c) y ≡ true) × (has (with_uppers T.pairs y) s ≡ true)
      at y on k = ⊎_elim (λ w. (y, w, (uppers_in y s).1 k)) (λ h. (c, first, (uppers_in c s).1 (inr (below y k h)))) (walked_into c (depth_of (link_at T.links c)) c y on (omega arith))

      into : Rests c s → (y : ℕ) × (has (open_chain T.links T.pairs c) y ≡ true) × (has (with_uppers T.pairs y) s ≡ true)
      into (inl e) = (c, first, (uppers_in c s).1 (inl e))
      into (inr h) = let k = all (reaches_source p t headed c s h) in ⊎_elim (λ x. at s (OnChain.over x.1 x.2) (inl refl)) (λ x. at x.0 x.1 (inr x.2)) (reaches_found p t T A c s k.0 k.1 h)
