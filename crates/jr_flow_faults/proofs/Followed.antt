-- The class that is followed comes to the members and bodies of the definition.
use Rattle.std.proofs.Common.{◌≡◌, ◌⊎◌, refl, sym, ap, subst, inl, inr, ⊎_elim, arith, ℕ, suc, ◌+◌, ◌<◌, Bool, true, List, [], ◌∷◌, length, Option, Some, None, Decides}
use Rattle.std.proofs.lemmas.Option.{none-some, same_Some}
use Rattle.jr_tree.specs.Rows.{Rows, label}
use Rattle.jr_tree.specs.Local.{IsLocal}
use Rattle.jr_defs.specs.Referents.{Table}
use Rattle.jr_plain.specs.Search.{Finds, has}
use Rattle.jr_plain.proofs.Tests.{like}
use Rattle.jr_places.specs.declared.chains.Entry.{Entry}
use Rattle.jr_supers.specs.Pairs.{has_pair, with_pair}
use Rattle.jr_supers.proofs.Keys.{with_pairs_tell}
use Rattle.jr_flow_faults.specs.Exceptions.{IsTry, IsCode, IsTryBlock, FinallyCompletes, Catches, ComesTo}
use Rattle.jr_flow_faults.specs.Outwards.{Meets, Arrives, Goes, GoesFrom, IsReached, IsLeft, AreFollowed, IsFollowing}
use Rattle.jr_flow_faults.proofs.Covered.{one_item, item_one}
use Rattle.jr_flow_faults.proofs.Outward.{code_no_try, meets_before, arrives_out, arrives_into}

-- one pair more
pub pair_tells : (pairs : List Entry) (low high o d : ℕ) → Decides (has_pair (with_pair pairs low high) o d) ((has_pair pairs o d ≡ true) ⊎ ((low ≡ o) × (high ≡ d)))
pair_tells pairs low high o d = like (with_pairs_tell pairs low (high ∷ []) o d) (⊎_elim (λ h. inl h) (λ h. inr (h.0, one_item high d h.1)))
    (⊎_elim (λ h. inl h) (λ h. inr (h.0, subst (λ x. has (high ∷ []) x ≡ true) h.1 (item_one high))))

module _ (p : Rows) (local : IsLocal p) (t : Table) (completes : ℕ → Bool) (c n : ℕ) (old : List Entry) where
  abbrev Following : List Entry → Option ℕ → ℕ → Type 0
  Following now next turn = IsFollowing p t completes c n old now next turn

  abbrev From : Option ℕ → ℕ → Type 0
  From next h = GoesFrom p t completes c next h

  -- ---- where it begins

  started : (next : Option ℕ) → Finds next (Meets p completes n) → (h : ℕ) → Arrives p t completes c n h → From next h
  started next finds h (Arrives.first m) = subst (λ o. From o h) (sym ((finds h).1 m)) (Goes.there refl)
  started next finds h (Arrives.after {g = g} m guarded catches finally rest) = subst (λ o. From o h) (sym ((finds g).1 m)) (Goes.on guarded catches finally rest)

  back_by : (g h : ℕ) → Meets p completes n g → Goes p t completes c g h → Arrives p t completes c n h
  back_by g h m (Goes.there same) = Arrives.first (subst (Meets p completes n) same m)
  back_by g h m (Goes.on guarded catches finally rest) = Arrives.after m guarded catches finally rest

  started_back : (next : Option ℕ) → Finds next (Meets p completes n) → (h : ℕ) → From next h → Arrives p t completes c n h
  started_back None finds h from = absurd from
  started_back (Some g) finds h from = back_by g h ((finds g).0 refl) from

  pub following_start : (next : Option ℕ) → Finds next (Meets p completes n) → n < length p → Following old next 0
  following_start next finds lt = record {
    ahead = λ h a. inr (started next finds h a);
    back = started_back next finds;
    pairs = λ o d h. inl h;
    kept = λ o d h. h;
    near = λ g e. let low = meets_before p local completes ((finds g).0 e) in omega arith;
  }

  -- ---- a `try` more, which does not catch it

  module _ (g turn : ℕ) (now : List Entry) (guarded : IsTry (label p g)) (before : Following now (Some g) turn) where
    own_pair : has_pair (with_pair now g c) g c ≡ true
    own_pair = (pair_tells now g c g c).1 (inr (refl, refl))

    pairs_more : (o d : ℕ) → has_pair (with_pair now g c) o d ≡ true → (has_pair old o d ≡ true) ⊎ ((c ≡ d) × Arrives p t completes c n o × IsTry (label p o))
    pairs_more o d h = ⊎_elim (λ k. before.pairs o d k)
        (λ k. inr (k.1, subst (λ m. Arrives p t completes c n m) k.0 (before.back g (Goes.there refl)), subst (λ m. IsTry (label p m)) k.0 guarded))
        ((pair_tells now g c o d).0 h)

    kept_more : (o d : ℕ) → has_pair old o d ≡ true → has_pair (with_pair now g c) o d ≡ true
    kept_more o d h = (pair_tells now g c o d).1 (inl (before.kept o d h))

    there_more : (h : ℕ) → (has_pair now h c ≡ true) × IsTry (label p h) → (has_pair (with_pair now g c) h c ≡ true) × IsTry (label p h)
    there_more h k = ((pair_tells now g c h c).1 (inl k.0), k.1)

    -- it is caught there
    pub following_caught : Catches p t g c → Following (with_pair now g c) None turn
    following_caught catches = record {
      ahead = λ h a. ⊎_elim (λ k. inl (there_more h k)) (λ k. inl (caught h k)) (before.ahead h a);
      back = λ h a. absurd a;
      pairs = pairs_more;
      kept = kept_more;
      near = λ x e. absurd (none-some x e);
    }
      where
        caught : (h : ℕ) → Goes p t completes c g h → (has_pair (with_pair now g c) h c ≡ true) × IsTry (label p h)
        caught h (Goes.there same) = (subst (λ m. has_pair (with_pair now g c) m c ≡ true) same own_pair, subst (λ m. IsTry (label p m)) same guarded)
        caught h (Goes.on x none finally rest) = absurd (none catches)

    module _ (none : Catches p t g c → ⊥) where
      -- it is lost there
      pub following_lost : (FinallyCompletes p completes g → ⊥) → Following (with_pair now g c) None turn
      following_lost lost = record {
        ahead = λ h a. ⊎_elim (λ k. inl (there_more h k)) (λ k. inl (caught h k)) (before.ahead h a);
        back = λ h a. absurd a;
        pairs = pairs_more;
        kept = kept_more;
        near = λ x e. absurd (none-some x e);
      }
        where
          caught : (h : ℕ) → Goes p t completes c g h → (has_pair (with_pair now g c) h c ≡ true) × IsTry (label p h)
          caught h (Goes.there same) = (subst (λ m. has_pair (with_pair now g c) m c ≡ true) same own_pair, subst (λ m. IsTry (label p m)) same guarded)
          caught h (Goes.on x other finally rest) = absurd (lost finally)

      pub following_on : (next : Option ℕ) → FinallyCompletes p completes g → Finds next (Meets p completes g) → Following (with_pair now g c) next (suc turn)
      following_on next finally finds = record {
        ahead = λ h a. ⊎_elim (λ k. inl (there_more h k)) (λ k. on h k) (before.ahead h a);
        back = λ h a. before.back h (Goes.on guarded none finally (onwards next finds h a));
        pairs = pairs_more;
        kept = kept_more;
        near = λ x e. let low = meets_before p local completes ((finds x).0 e) in let room = before.near g refl in omega arith;
      }
        where
          goes : (h : ℕ) → Arrives p t completes c g h → From next h
          goes h (Arrives.first m) = subst (λ o. From o h) (sym ((finds h).1 m)) (Goes.there refl)
          goes h (Arrives.after {g = x} m x_guarded catches x_finally rest) = subst (λ o. From o h) (sym ((finds x).1 m)) (Goes.on x_guarded catches x_finally rest)

          on : (h : ℕ) → Goes p t completes c g h → ((has_pair (with_pair now g c) h c ≡ true) × IsTry (label p h)) ⊎ From next h
          on h (Goes.there same) = inl (subst (λ m. has_pair (with_pair now g c) m c ≡ true) same own_pair, subst (λ m. IsTry (label p m)) same guarded)
          on h (Goes.on x other x_finally rest) = inr (goes h rest)

          by : (x h : ℕ) → Meets p completes g x → Goes p t completes c x h → Arrives p t completes c g h
          by x h m (Goes.there same) = Arrives.first (subst (Meets p completes g) same m)
          by x h m (Goes.on x_guarded catches x_finally rest) = Arrives.after m x_guarded catches x_finally rest

          onwards : (o : Option ℕ) → Finds o (Meets p completes g) → (h : ℕ) → From o h → Arrives p t completes c g h
          onwards None found h a = absurd a
          onwards (Some x) found h a = by x h ((found x).0 refl) a

  -- ---- where it ends

  module _ (now : List Entry) (next : Option ℕ) (turn : ℕ) (none : IsCode (label p n) → ⊥) (before : Following now next turn) where
    code_or_body : (h : ℕ) → Arrives p t completes c n h → (IsCode (label p h) × ComesTo p t completes c n h) ⊎ (IsTryBlock p h (h + 1) × ComesTo p t completes c n (h + 1))
    code_or_body h a = arrives_out p local completes t c none a

    try_left : (h : ℕ) → Arrives p t completes c n h → IsTry (label p h) → IsLeft p t completes c n h
    try_left h a guarded = ⊎_elim (λ k. absurd (code_no_try (label p h) k.0 guarded)) (λ k. record { body = k.0; comes = k.1 }) (code_or_body h a)

    left_arrives : (o : ℕ) → IsLeft p t completes c n o → Arrives p t completes c n o
    left_arrives o h = arrives_into p local completes t c none h.comes (inr h.body)

    reached_arrives : (m : ℕ) → IsReached p t completes c n m → Arrives p t completes c n m
    reached_arrives m h = arrives_into p local completes t c none h.comes (inl (h.is_code, refl))

    -- where no `try` is ahead, all are done
    pub following_pairs : ((o : ℕ) → From next o → IsTry (label p o) → ⊥) → AreFollowed p t completes c n old now
    following_pairs past o d = (
      λ h. ⊎_elim (λ k. inl k) (λ k. inr (k.0, try_left o k.1 k.2)) (before.pairs o d h),
      ⊎_elim (λ k. before.kept o d k) (λ k. subst (λ x. has_pair now o x ≡ true) k.0
          (⊎_elim (λ a. a.0) (λ a. absurd (past o a k.1.body.statement)) (before.ahead o (left_arrives o k.1)))),
    )

    pub following_none : ((m : ℕ) → From next m → ⊥) → Finds None (IsReached p t completes c n)
    following_none past m = (λ h. absurd (none-some m h), λ h. ⊎_elim (λ a. absurd (code_no_try (label p m) h.is_code a.1)) (λ a. absurd (past m a)) (before.ahead m (reached_arrives m h)))

    pub following_end : (g : ℕ) → next ≡ Some g → (IsTry (label p g) → ⊥) → Finds (Some g) (IsReached p t completes c n)
    following_end g is other m = (
      λ h. subst (IsReached p t completes c n) (same_Some g m h) reached,
      λ h. ⊎_elim (λ a. absurd (code_no_try (label p m) h.is_code a.1)) (λ a. ap Some (here m (subst (λ o. From o m) is a))) (before.ahead m (reached_arrives m h)),
    )
      where
        here : (m : ℕ) → Goes p t completes c g m → g ≡ m
        here m (Goes.there same) = same
        here m (Goes.on guarded catches finally rest) = absurd (other guarded)

        reached : IsReached p t completes c n g
        reached = ⊎_elim (λ k. record { is_code = k.0; comes = k.1 }) (λ k. absurd (other k.0.statement)) (code_or_body g (before.back g (subst (λ o. From o g) (sym is) (Goes.there refl))))

    -- no `try` is ahead of a member
    pub none_ahead : (g : ℕ) → next ≡ Some g → (IsTry (label p g) → ⊥) → (o : ℕ) → From next o → IsTry (label p o) → ⊥
    none_ahead g is other o a guarded = by (subst (λ x. From x o) is a)
      where
        by : Goes p t completes c g o → ⊥
        by (Goes.there same) = other (subst (λ m. IsTry (label p m)) (sym same) guarded)
        by (Goes.on x catches finally rest) = other x
