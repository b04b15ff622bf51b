-- One type more, behind its supertypes.
use Rattle.std.proofs.Common.{◌≡◌, ◌≢◌, ◌⊎◌, refl, sym, ◌∙◌, ap, ap₂, subst, inl, inr, ⊎_elim, ℕ, ◌-◌, ◌<◌, Bool, true, false, cond, ◌||◌, List, [], ◌∷◌, length, Option, Some, None, nat_eq, Decides, slice_set}
use Rattle.std.proofs.lemmas.Bool.{false≢true, cases_eq, or_left, or_right, or_cases}
use Rattle.std.proofs.lemmas.Bool.Decides.{Decides-eqb}
use Rattle.std.proofs.lemmas.List.{get_or-set_same, get_or-set_other}
use Rattle.std.proofs.lemmas.List.Folds.{list_any-append}
use Rattle.std.proofs.lemmas.Option.{none-some, same_Some}
use Rattle.jr_tree.specs.Rows.{Rows}
use Rattle.jr_defs.specs.Referents.{Table}
use Rattle.jr_defs.specs.Declarations.{IsType, IsInterface, IsObject}
use Rattle.jr_defs.specs.Supertypes.{Super, Above}
use Rattle.jr_plain.specs.Search.{has, Lists, Reaches}
use Rattle.jr_plain.specs.Headed.{IsHeaded}
use Rattle.jr_plain.specs.Declarations.{is_object, is_interface}
use Rattle.jr_plain.proofs.Tests.{itself, either, like}
use Rattle.jr_plain.proofs.Searches.{some_of}
use Rattle.jr_plain.proofs.Declared.{object_tells, interface_tells}
use Rattle.jr_places.specs.declared.chains.Entry.{Entry}
use Rattle.jr_supers.specs.declared.above.Link.{Link}
use Rattle.jr_supers.specs.Pairs.{has_pair, uppers, with_pairs}
use Rattle.jr_supers.specs.Above.{Tables, link_at, up_of, up_at, branching_of, branching_from, with_all_above, is_some_item, far_jump, jump_by, jump_over, top_link, link_below, new_link, is_known, last_from, known_only, known_first, item_list, unknown_list, further_from, further, object_of, reach_object, with_new, IsKnown, OnChain, IsUnder, IsLinked, AreAbove, HasNoOtherObject}
use Rattle.jr_supers.proofs.Keys.{uppers_tell, with_pairs_tell, HasOr, items_same}
use Rattle.jr_supers.proofs.Chained.{up_known, chain_then}
use Rattle.jr_supers.proofs.Telling.{above_source, reaches_then}
use Rattle.jr_supers.proofs.Collecting.{Rests, highs as highs_tell}

-- ---- the first of the supertypes, and the others

known_is : (o : Option Link) → is_known o ≡ true → (l : Link) × (o ≡ Some l)
known_is None h = absurd (false≢true h)
known_is (Some l) h = (l, refl)

module _ (links : List (Option Link)) where
  parts_last : (b : Bool) (s : ℕ) → (cond b (Some s) None ≡ Some s) ⊎ (has (cond b [] (s ∷ [])) s ≡ true)
  parts_last true s = inl refl
  parts_last false s = inr (or_left (nat_eq s s) false ((Decides-eqb s s).1 refl))

  has_item : (o : Option ℕ) (s : ℕ) → o ≡ Some s → has (item_list o) s ≡ true
  has_item None s e = absurd (none-some s e)
  has_item (Some x) s e = or_left (nat_eq x s) false ((Decides-eqb x s).1 (same_Some x s e))

  parts_from : (o : Option ℕ) (supers : List ℕ) (s : ℕ) → (o ≡ Some s) ⊎ (has supers s ≡ true) → (known_only links (last_from o supers) ≡ Some s) ⊎ (has (further_from links o supers) s ≡ true)
  parts_from o [] s h = ⊎_elim (λ e. subst (λ o. (known_only links o ≡ Some s) ⊎ (has (unknown_list links o) s ≡ true)) (sym e) (parts_last (is_known (link_at links s)) s)) (λ n. absurd (false≢true n)) h
  parts_from o (x ∷ xs) s h = ⊎_elim (λ e. inr (list_any-append (λ k. nat_eq k s) (item_list o) (further_from links (Some x) xs) ∙ or_left (has (item_list o) s) (has (further_from links (Some x) xs) s) (has_item o s e)))
      (λ k. ⊎_elim (λ f. inl f) (λ f. inr (list_any-append (λ k. nat_eq k s) (item_list o) (further_from links (Some x) xs) ∙ or_right (has (item_list o) s) (has (further_from links (Some x) xs) s) f))
      (parts_from (Some x) xs s (⊎_elim (λ e. inl (ap Some ((Decides-eqb x s).0 e))) (λ n. inr n) (or_cases (nat_eq x s) (has xs s) k)))) h

  pub parts : (supers : List ℕ) (s : ℕ) → has supers s ≡ true → (known_first links supers ≡ Some s) ⊎ (has (further links supers) s ≡ true)
  parts supers s h = parts_from None supers s (inr h)

  only_known : (o : Option ℕ) (s : ℕ) → known_only links o ≡ Some s → (o ≡ Some s) × IsKnown links s
  only_known None s e = absurd (none-some s e)
  only_known (Some x) s e = by (is_known (link_at links x)) refl e
    where
      by : (b : Bool) → is_known (link_at links x) ≡ b → cond b (Some x) None ≡ Some s → (Some x ≡ Some s) × IsKnown links s
      by true k e = (e, subst (λ y. IsKnown links y) (same_Some x s e) (known_is (link_at links x) k))
      by false k e = absurd (none-some s e)

  last_is : (o : Option ℕ) (supers : List ℕ) (s : ℕ) → last_from o supers ≡ Some s → (o ≡ Some s) ⊎ (has supers s ≡ true)
  last_is o [] s e = inl e
  last_is o (x ∷ xs) s e = inr (⊎_elim (λ f. or_left (nat_eq x s) (has xs s) ((Decides-eqb x s).1 (same_Some x s f))) (λ k. or_right (nat_eq x s) (has xs s) k) (last_is (Some x) xs s e))

  pub first_is : (supers : List ℕ) (s : ℕ) → known_first links supers ≡ Some s → (has supers s ≡ true) × IsKnown links s
  first_is supers s e = let k = only_known (last_from None supers) s e in (⊎_elim (λ f. absurd (none-some s f)) (λ h. h) (last_is None supers s k.0), k.1)

  of_item : (o : Option ℕ) (s : ℕ) → has (item_list o) s ≡ true → o ≡ Some s
  of_item None s h = absurd (false≢true h)
  of_item (Some x) s h = ap Some ((Decides-eqb x s).0 (⊎_elim (λ e. e) (λ n. absurd (false≢true n)) (or_cases (nat_eq x s) false h)))

  of_unknown : (o : Option ℕ) (s : ℕ) → has (unknown_list links o) s ≡ true → o ≡ Some s
  of_unknown None s h = absurd (false≢true h)
  of_unknown (Some x) s h = by (is_known (link_at links x)) h
    where
      by : (b : Bool) → has (cond b [] (x ∷ [])) s ≡ true → Some x ≡ Some s
      by true h = absurd (false≢true h)
      by false h = of_item (Some x) s h

  others_from : (o : Option ℕ) (supers : List ℕ) (s : ℕ) → has (further_from links o supers) s ≡ true → (o ≡ Some s) ⊎ (has supers s ≡ true)
  others_from o [] s h = inl (of_unknown o s h)
  others_from o (x ∷ xs) s h = ⊎_elim (λ k. inl (of_item o s k)) (λ k. inr (⊎_elim (λ f. or_left (nat_eq x s) (has xs s) ((Decides-eqb x s).1 (same_Some x s f))) (λ n. or_right (nat_eq x s) (has xs s) n) (others_from (Some x) xs s k)))
      (or_cases (has (item_list o) s) (has (further_from links (Some x) xs) s) (sym (list_any-append (λ k. nat_eq k s) (item_list o) (further_from links (Some x) xs)) ∙ h))

  pub other_is : (supers : List ℕ) (s : ℕ) → has (further links supers) s ≡ true → has supers s ≡ true
  other_is supers s h = ⊎_elim (λ e. absurd (none-some s e)) (λ k. k) (others_from None supers s h)

-- ---- one type more

module _ (p : Rows) (t : Table) (T : Tables) (A : AreAbove p t T) (headed : IsHeaded p) (one : HasNoOtherObject p) (c : ℕ) (inside : c < length T.links) (fresh : link_at T.links c ≡ None)
    (supers : List ℕ) (listed : Lists supers (Super p t c)) (behind : (s : ℕ) → Super p t c s → IsType p s → IsKnown T.links s) where
  others : List ℕ
  others = further T.links supers

  highs : List ℕ
  highs = with_all_above T.links T.pairs [] (further T.links supers)

  first : Option ℕ
  first = known_first T.links supers

  has_object : Bool
  has_object = is_interface p c || reach_object p T.links supers

  link : Link
  link = new_link T.links c (is_some_item highs) has_object first

  links : List (Option Link)
  links = slice_set T.links c (Some link)

  pairs : List Entry
  pairs = with_pairs T.pairs c highs

  more : Tables
  more = record { links = links; pairs = pairs }

  -- what stands above others
  high_tells : (s : ℕ) → Decides (has highs s) ((o : ℕ) × (has others o ≡ true) × Rests p t T A o s)
  unfolding highs others
  high_tells s = highs_tell p t T A headed (further T.links supers) (λ o h. behind o ((listed o).0 (other_is T.links supers o h))) s

  other_super : (o : ℕ) → has others o ≡ true → Super p t c o
  unfolding others
  other_super o h = (listed o).0 (other_is T.links supers o h)

  not_fresh : (k : ℕ) (l : Link) → link_at T.links k ≡ Some l → k ≢ c
  not_fresh k l is e = none-some l (sym fresh ∙ ap (link_at T.links) (sym e) ∙ is)

  kept : (k : ℕ) (l : Link) → link_at T.links k ≡ Some l → link_at links k ≡ Some l
  unfolding links
  kept k l is = get_or-set_other T.links c k (Some link) None (not_fresh k l is) ∙ is

  now : link_at links c ≡ Some link
  unfolding links
  now = get_or-set_same T.links c (Some link) None inside

  kept_up : (k u : ℕ) → up_at T.links k ≡ Some u → up_at links k ≡ Some u
  kept_up k u e = let l = up_known (link_at T.links k) u e in ap up_of (kept k l.0 l.1) ∙ l.2

  kept_chain : (k y : ℕ) → OnChain T.links k y → OnChain links k y
  kept_chain k _ OnChain.here = OnChain.here
  kept_chain k y (OnChain.over {u = u} e on) = OnChain.over (kept_up k u e) (kept_chain u y on)

  pair_tells : (k s : ℕ) → Decides (has_pair pairs k s) (HasOr T.pairs c (λ y. has highs y ≡ true) k s)
  unfolding pairs
  pair_tells k s = with_pairs_tell T.pairs c highs k s

  -- a type that was known has the same
  old_pair : (k s : ℕ) (l : Link) → link_at T.links k ≡ Some l → has_pair pairs k s ≡ true → has_pair T.pairs k s ≡ true
  old_pair k s l is h = ⊎_elim (λ h. h) (λ n. absurd (not_fresh k l is (sym n.0))) ((pair_tells k s).0 h)

  old_branches : (k : ℕ) (l : Link) → link_at T.links k ≡ Some l → is_some_item (uppers T.pairs k) ≡ is_some_item (uppers pairs k)
  old_branches k l is = items_same (uppers T.pairs k) (uppers pairs k) (λ s h. uppers_tell pairs k s ∙ (pair_tells k s).1 (inl (sym (uppers_tell T.pairs k s) ∙ h)))
      (λ s h. uppers_tell T.pairs k s ∙ old_pair k s l is (sym (uppers_tell pairs k s) ∙ h))

  old_under : (l : Link) (u : ℕ) → IsUnder T.links l u → IsUnder links l u
  old_under l u h = record { over = h.over; known = kept u h.over h.known; deeper = h.deeper }

  branching_kept : (o : Option ℕ) → ((u : ℕ) → o ≡ Some u → IsKnown T.links u) → branching_from T.links o ≡ branching_from links o
  branching_kept None h = refl
  branching_kept (Some u) h = let k = h u refl in ap branching_of (k.1 ∙ sym (kept u k.0 k.1))

  old_linked : (k : ℕ) (l : Link) → link_at T.links k ≡ Some l → IsLinked p t more k l
  unfolding more
  old_linked k l is = let a = A.each k l is in record {
    first = λ u e. ((a.first u e).0, old_under l u (a.first u e).1);
    top = a.top;
    jumps = kept_chain k l.jump a.jumps;
    supers = λ s h. ⊎_elim (λ e. inl e) (λ h. inr ((pair_tells k s).1 (inl h))) (a.supers s h);
    branches = a.branches ∙ ap₂ (λ b o. cond b (Some k) o) (old_branches k l is) (branching_kept l.up (λ u e. let f = (a.first u e).1 in (f.over, f.known)));
    object = a.object;
  }

  -- ---- the new one

  jump_far : (u : ℕ) (over far : Link) → OnChain T.links u far.jump → (o : Option Link) → OnChain T.links u (far_jump u over far o)
  jump_far u over far on None = OnChain.here
  jump_far u over far on (Some farther) = by (nat_eq (over.depth - far.depth) (far.depth - farther.depth))
    where
      by : (b : Bool) → OnChain T.links u (cond b far.jump u)
      by true = on
      by false = OnChain.here

  jump_on : (u : ℕ) (over : Link) → link_at T.links u ≡ Some over → OnChain T.links u (jump_over T.links u over)
  jump_on u over is = by (link_at T.links over.jump) refl
    where
      by : (o : Option Link) → link_at T.links over.jump ≡ o → OnChain T.links u (jump_by T.links u over o)
      by None e = OnChain.here
      by (Some far) e = jump_far u over far (chain_then (A.each u over is).jumps (A.each over.jump far e).jumps) (link_at T.links far.jump)

  -- Object
  object_tells_new : (o : ℕ) → IsObject p o → Decides has_object (Above p t c o)
  unfolding has_object
  object_tells_new o is = like (either (interface_tells p c) (some_of (λ s. is_object p s || object_of (link_at T.links s)) (λ s. IsObject p s ⊎ (object_of (link_at T.links s) ≡ true))
      (λ s. either (object_tells p s) (itself (object_of (link_at T.links s)))) supers listed)) out into
    where
      over : (s : ℕ) → (x : Option Link) → link_at T.links s ≡ x → object_of x ≡ true → Above p t s o
      over s None e h = absurd (false≢true h)
      over s (Some l) e h = ((A.each s l e).object o is).0 h

      out : IsInterface p c ⊎ ((s : ℕ) × Super p t c s × (IsObject p s ⊎ (object_of (link_at T.links s) ≡ true))) → Above p t c o
      out (inl i) = Above.object i is
      out (inr h) = ⊎_elim (λ k. subst (λ y. Above p t c y) (one h.0 o k is) (Above.direct h.1)) (λ k. Above.further h.1 (over h.0 (link_at T.links h.0) refl k)) h.2

      into : Above p t c o → IsInterface p c ⊎ ((s : ℕ) × Super p t c s × (IsObject p s ⊎ (object_of (link_at T.links s) ≡ true)))
      into (Above.direct h) = inr (o, h, inl is)
      into (Above.further {r = r} h k) = let known = behind r h (above_source p t headed r o k) in inr (r, h, inr (ap object_of known.1 ∙ ((A.each r known.0 known.1).object o is).1 k))
      into (Above.object i x) = inl i

  new_branches : is_some_item highs ≡ is_some_item (uppers pairs c)
  new_branches = items_same highs (uppers pairs c) (λ s h. uppers_tell pairs c s ∙ (pair_tells c s).1 (inr (refl, h)))
      (λ s h. ⊎_elim (λ k. let known = A.known c s k in absurd (none-some known.0 (sym fresh ∙ known.1))) (λ k. k.1) ((pair_tells c s).0 (sym (uppers_tell pairs c s) ∙ h)))

  -- the link by the first supertype
  abbrev IsRight : Link → Type 0
  IsRight l = ((u : ℕ) → l.up ≡ Some u → Super p t c u × IsUnder links l u) × (l.up ≡ None → l.depth ≡ 0) × OnChain links c l.jump × (l.up ≡ first)
      × (l.branching ≡ cond (is_some_item highs) (Some c) (branching_from links l.up)) × (l.has_object ≡ has_object)

  right_top : first ≡ None → IsRight (top_link c (is_some_item highs) has_object)
  right_top e = (λ u h. absurd (none-some u h), λ h. refl, OnChain.here, sym e, refl, refl)

  right_below : (u : ℕ) (over : Link) → first ≡ Some u → link_at T.links u ≡ Some over → up_at links c ≡ Some u → IsRight (link_below T.links c (is_some_item highs) has_object u (Some over))
  unfolding first
  right_below u over e is up = (
    (λ v h. subst (λ w. Super p t c w × IsUnder links (link_below T.links c (is_some_item highs) has_object u (Some over)) w) (same_Some u v h)
        ((listed u).0 (first_is T.links supers u e).0, record { over = over; known = kept u over is; deeper = refl })),
    (λ h. absurd (none-some u (sym h))),
    OnChain.over up (kept_chain u (jump_over T.links u over) (jump_on u over is)),
    sym e,
    ap (λ o. cond (is_some_item highs) (Some c) o) (ap branching_of (sym (kept u over is))),
    refl,
  )

  abbrev LinkIs : Type 0
  LinkIs = ((first ≡ None) × (link ≡ top_link c (is_some_item highs) has_object))
      ⊎ ((u : ℕ) × (over : Link) × (first ≡ Some u) × (link_at T.links u ≡ Some over) × (link ≡ link_below T.links c (is_some_item highs) has_object u (Some over)))

  link_by : (o : Option ℕ) → known_first T.links supers ≡ o → LinkIs
  unfolding link first
  link_by None e = inl (e, ap (new_link T.links c (is_some_item highs) has_object) e)
  link_by (Some u) e = let k = (first_is T.links supers u e).1 in inr (u, k.0, e, k.1, ap (new_link T.links c (is_some_item highs) has_object) e ∙ ap (link_below T.links c (is_some_item highs) has_object u) k.1)

  right : IsRight link
  right = ⊎_elim (λ h. subst IsRight (sym h.1) (right_top h.0)) (λ h. subst IsRight (sym h.4) (right_below h.0 h.1 h.2 h.3 (ap up_of now ∙ ap (λ l. l.up) h.4))) (link_by (known_first T.links supers) refl)

  new_supers : (s : ℕ) → Super p t c s → (link.up ≡ Some s) ⊎ (has_pair pairs c s ≡ true)
  unfolding first others
  new_supers s h = ⊎_elim (λ e. inl (right.3 ∙ firsts e)) (λ k. inr ((pair_tells c s).1 (inr (refl, (high_tells s).1 (s, other k, inl refl))))) (parts T.links supers s ((listed s).1 h))
    where
      firsts : known_first T.links supers ≡ Some s → first ≡ Some s
      firsts e = e

      other : has (further T.links supers) s ≡ true → has others s ≡ true
      other k = k

  new_linked : IsLinked p t more c link
  unfolding more
  new_linked = record {
    first = right.0;
    top = right.1;
    jumps = right.2;
    supers = new_supers;
    branches = right.4 ∙ ap (λ b. cond b (Some c) (branching_from links link.up)) new_branches;
    object = λ o h. subst (λ b. Decides b (Above p t c o)) (sym right.5) (object_tells_new o h);
  }

  each_more : (k : ℕ) (l : Link) → link_at links k ≡ Some l → IsLinked p t more k l
  unfolding links
  each_more k l is = ⊎_elim (λ e. subst (λ j. IsLinked p t more j l) (sym e) (subst (λ x. IsLinked p t more c x) (same_Some link l (sym now ∙ ap (link_at links) (sym e) ∙ is)) new_linked))
      (λ apart. old_linked k l (old k l apart is)) (cases_eq k c)
    where
      old : (k : ℕ) (l : Link) → k ≢ c → link_at links k ≡ Some l → link_at T.links k ≡ Some l
      old k l apart is = sym (get_or-set_other T.links c k (Some link) None apart) ∙ is

  high_reaches : (s : ℕ) → has highs s ≡ true → Reaches (Super p t) c s
  high_reaches s h = let k = (high_tells s).0 h in by k.2 (other_super k.0 k.1)
    where
      by : {o : ℕ} → Rests p t T A o s → Super p t c o → Reaches (Super p t) c s
      by (inl e) d = Reaches.direct (subst (λ y. Super p t c y) e d)
      by (inr r) d = Reaches.further d r

  high_closed : (r s : ℕ) → has highs r ≡ true → Super p t r s → has highs s ≡ true
  high_closed r s h d = let k = (high_tells r).0 h in (high_tells s).1 (k.0, k.1, inr (⊎_elim (λ e. Reaches.direct (subst (λ y. Super p t y s) (sym e) d)) (λ q. reaches_then q (Reaches.direct d)) k.2))

  sound_more : (k s : ℕ) → has_pair pairs k s ≡ true → Reaches (Super p t) k s
  sound_more k s h = ⊎_elim (λ h. A.sound k s h) (λ n. subst (λ j. Reaches (Super p t) j s) n.0 (high_reaches s n.1)) ((pair_tells k s).0 h)

  closed_more : (k r s : ℕ) → has_pair pairs k r ≡ true → Super p t r s → has_pair pairs k s ≡ true
  closed_more k r s h d = (pair_tells k s).1 (⊎_elim (λ h. inl (A.closed k r s h d)) (λ n. inr (n.0, high_closed r s n.1 d)) ((pair_tells k r).0 h))

  known_more : (k s : ℕ) → has_pair pairs k s ≡ true → IsKnown links k
  known_more k s h = ⊎_elim (λ h. let l = A.known k s h in (l.0, kept k l.0 l.1)) (λ n. subst (λ j. IsKnown links j) n.0 (link, now)) ((pair_tells k s).0 h)

  above_more : AreAbove p t more
  unfolding more
  above_more = record { each = each_more; sound = sound_more; closed = closed_more; known = known_more }

  -- as the code has it
  pub more_above : AreAbove p t (with_new p supers c T)
  unfolding more links pairs link highs first has_object
  more_above = above_more

  pub more_known : (k : ℕ) → IsKnown T.links k ⊎ (k ≡ c) → IsKnown (with_new p supers c T).links k
  unfolding links link highs first has_object
  more_known k (inl h) = (h.0, kept k h.0 h.1)
  more_known k (inr e) = subst (λ j. IsKnown (with_new p supers c T).links j) (sym e) (link, now)
