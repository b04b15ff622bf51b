-- What is reached from a number by edges that are data, a turn at a time.
use Rattle.std.proofs.Common.{◌≡◌, ◌⊎◌, refl, sym, ◌∙◌, ap, subst, inl, inr, ⊎_elim, arith, ℕ, zero, suc, ◌+◌, ◌<◌, Bool, true, false, List, [], ◌∷◌, ◌++◌, length, get_or, Decides}
use Rattle.std.proofs.lemmas.Bool.{false≢true, false_from_ne_true}
use Rattle.jr_plain.specs.Search.{has, Reaches}
use Rattle.jr_places.specs.declared.chains.Entry.{Entry}
use Rattle.jr_places.specs.declared.stamps.Stamps.{Stamps}
use Rattle.jr_places.specs.Stamps.{is_stamped, IsStamping, IsEmptied, AddsStamp}
use Rattle.jr_members.proofs.Each.{has_push, has_front, front_has, rest_has, stand_push}
use Rattle.jr_dispatch.specs.Families.{with_if, turns_left}
use Rattle.jr_dispatch.proofs.Spreading.{longer, unmet_kept, unmet_less, stamped_below}
use Rattle.jr_bind.specs.Rounds.{next_of, IsEdgeIn, IsOnRound, AreEdges, PutsOne, IsPutting, IsReaching}

-- ---- one number

pub not_stamped : (stamps : Stamps) (x : ℕ) → is_stamped stamps x ≡ false → is_stamped stamps x ≡ true → ⊥
not_stamped stamps x no' is = false≢true (sym no' ∙ is)

pub put_one : (bound at : ℕ) (old new : Stamps) (before after : List ℕ) (is_new : Bool) → AddsStamp old new bound at is_new → after ≡ with_if is_new before at → PutsOne bound at old new before after
put_one bound at old new before after is_new h made = subst (λ xs. PutsOne bound at old new before xs) (sym made) (by is_new refl)
  where
    by : (b : Bool) → is_new ≡ b → PutsOne bound at old new before (with_if b before at)
    by true e = let fresh = h.new_one e in record {
      counted = h.counted;
      out = λ x is. ⊎_elim (λ a. inl a) (λ same. inr (same, (has_push before at x).1 (inr same))) (h.out x is);
      met = h.kept;
      kept = λ x is. (has_push before at x).1 (inl is);
      from = λ x is. ⊎_elim (λ a. inl a) (λ same. inr (same, (subst (λ z. is_stamped old z ≡ false) same fresh.0, subst (λ z. is_stamped new z ≡ true) same fresh.1))) ((has_push before at x).0 is);
      told = λ lt. fresh.1;
      once = λ once met. stand_push before at once (false_from_ne_true (has before at) (λ is. not_stamped old at fresh.0 (met at is)));
      less = let more = longer before at in let few = unmet_less old new h.kept bound at (stamped_below new bound at h.counted fresh.1) fresh.0 fresh.1 in omega arith;
    }
    by false e = record {
      counted = h.counted;
      out = λ x is. ⊎_elim (λ a. inl a) (λ same. inl (subst (λ z. is_stamped old z ≡ true) same (h.was (stamped_below new bound at h.counted (subst (λ z. is_stamped new z ≡ true) (sym same) is)) e))) (h.out x is);
      met = h.kept;
      kept = λ x is. is;
      from = λ x is. inl is;
      told = λ lt. h.kept at (h.was lt e);
      once = λ once met. once;
      less = let few = unmet_kept old new h.kept bound in omega arith;
    }

-- ---- a list of numbers

pub put_start : (bound : ℕ) (all given : List ℕ) (met : Stamps) (waiting : List ℕ) → given ≡ all → IsStamping met bound → IsPutting bound all met met waiting waiting given
put_start bound all given met waiting same counted = record {
  counted = counted;
  out = λ x is. inl is;
  met = λ x is. is;
  kept = λ x is. is;
  from = λ x is. inl is;
  told = λ x is lt. inr (subst (λ xs. has xs x ≡ true) (sym same) is);
  less = omega arith;
}

pub put_more : (bound : ℕ) (all rows rest : List ℕ) (old mid new : Stamps) (before between after : List ℕ) (y : ℕ) → rows ≡ y ∷ rest → has all y ≡ true → PutsOne bound y mid new between after → IsPutting bound all old mid before between rows
    → IsPutting bound all old new before after rest
put_more bound all rows rest old mid new before between after y e at k h = record {
  counted = k.counted;
  out = λ x is. ⊎_elim (λ a. ⊎_elim (λ b. inl b) (λ b. inr (b.0, k.kept x b.1)) (h.out x a)) (λ a. inr (subst (λ z. has all z ≡ true) a.0 at, a.1)) (k.out x is);
  met = λ x is. k.met x (h.met x is);
  kept = λ x is. k.kept x (h.kept x is);
  from = λ x is. ⊎_elim (λ a. ⊎_elim (λ b. inl b) (λ b. inr (k.met x b)) (h.from x a)) (λ a. inr a.1.1) (k.from x is);
  told = λ x is lt. ⊎_elim (λ a. inl (k.met x a)) (λ a. ⊎_elim (λ same. inl (subst (λ z. is_stamped new z ≡ true) same (k.told (subst (λ z. z < bound) (sym same) lt)))) (λ r. inr r) (has_front y x rest (subst (λ xs. has xs x ≡ true) e a))) (h.told x is lt);
  less = let one = k.less in let two = h.less in omega arith;
}

pub put_end : (bound : ℕ) (all rest : List ℕ) (old new : Stamps) (before after : List ℕ) → rest ≡ [] → IsPutting bound all old new before after rest → IsPutting bound all old new before after []
put_end bound all rest old new before after none h = subst (λ xs. IsPutting bound all old new before after xs) none h

pub put_as : (bound : ℕ) (all given : List ℕ) (old new : Stamps) (before after : List ℕ) → given ≡ all → IsPutting bound given old new before after [] → IsPutting bound all old new before after []
put_as bound all given old new before after same h = subst (λ xs. IsPutting bound xs old new before after []) same h

-- ---- from number to number

pub onward : {E : ℕ → ℕ → Type 0} (a b c : ℕ) → Reaches E a b → E b c → Reaches E a c
onward a b c (Reaches.direct e) f = Reaches.further e (Reaches.direct f)
onward a b c (Reaches.further {r = r} e way) f = Reaches.further e (onward r b c way f)

module _ (edges : List Entry) (a bound : ℕ) where
  pub reaching_start : (empty met : Stamps) (none waiting : List ℕ) → IsEmptied empty bound → none ≡ [] → IsPutting bound (next_of edges a) empty met none waiting [] → IsReaching edges a bound met waiting
  reaching_start empty met none waiting emptied nothing k = record {
    counted = k.counted;
    sound = λ x is. ⊎_elim (λ h. absurd (not_stamped empty x (emptied.none x) h)) (λ h. Reaches.direct h.0) (k.out x is);
    held = λ x is. ⊎_elim (λ h. absurd (false≢true (subst (λ xs. has xs x ≡ true) nothing h))) (λ h. h) (k.from x is);
    start = λ y e lt. ⊎_elim (λ h. h) (λ h. absurd (false≢true h)) (k.told y e lt);
    closed = λ x y is e lt. ⊎_elim (λ h. absurd (not_stamped empty x (emptied.none x) h)) (λ h. inl h.1) (k.out x is);
  }

  pub reaching_next : (old new : Stamps) (held rest after : List ℕ) (x : ℕ) → held ≡ rest ++ x ∷ [] → IsReaching edges a bound old held → IsPutting bound (next_of edges x) old new rest after [] → IsReaching edges a bound new after
  reaching_next old new held rest after x top h k = record {
    counted = k.counted;
    sound = λ y is. ⊎_elim (λ b. h.sound y b) (λ b. onward a x y (h.sound x (h.held x top_held)) b.0) (k.out y is);
    held = λ y is. ⊎_elim (λ b. k.met y (h.held y (rest_held y b))) (λ b. b) (k.from y is);
    start = λ y e lt. k.met y (h.start y e lt);
    closed = λ y z is e lt. ⊎_elim (λ b. ⊎_elim (λ w. waits y z e lt w) (λ s. inr (k.met z s)) (h.closed y z b e lt)) (λ b. inl b.1) (k.out y is);
  }
    where
      top_held : has held x ≡ true
      top_held = subst (λ xs. has xs x ≡ true) (sym top) ((has_push rest x x).1 (inr refl))

      rest_held : (y : ℕ) → has rest y ≡ true → has held y ≡ true
      rest_held y at = subst (λ xs. has xs y ≡ true) (sym top) ((has_push rest x y).1 (inl at))

      waits : (y z : ℕ) → IsEdgeIn edges y z → z < bound → has held y ≡ true → (has after y ≡ true) ⊎ (is_stamped new z ≡ true)
      waits y z e lt at = ⊎_elim (λ b. inl (k.kept y b)) (λ same. ⊎_elim (λ s. inr s) (λ none. absurd (false≢true none)) (k.told z (subst (λ w. IsEdgeIn edges w z) (sym same) e) lt))
          ((has_push rest x y).0 (subst (λ xs. has xs y ≡ true) top at))

  pub reaching_end : (met : Stamps) (waiting : List ℕ) (is : Bool) → waiting ≡ [] → is ≡ is_stamped met a → AreEdges edges bound → IsReaching edges a bound met waiting → Decides is (IsOnRound edges a)
  reaching_end met waiting is none same edges_are h = subst (λ b. Decides b (IsOnRound edges a)) (sym same) (h.sound a, walk a a (λ y e. h.start y e (edges_are.below a y e)))
    where
      walk : (x b : ℕ) → ((y : ℕ) → IsEdgeIn edges x y → is_stamped met y ≡ true) → Reaches (IsEdgeIn edges) x b → is_stamped met b ≡ true
      walk x b next (Reaches.direct e) = next b e
      walk x b next (Reaches.further {r = r} e way) = walk r b
          (λ y f. ⊎_elim (λ at. absurd (false≢true (subst (λ xs. has xs r ≡ true) none at))) (λ s. s) (h.closed r y (next r e) f (edges_are.below r y f))) way

pub turn_less : (bound : ℕ) (all : List ℕ) (old new : Stamps) (held rest after : List ℕ) (x : ℕ) → held ≡ rest ++ x ∷ [] → IsPutting bound all old new rest after [] → turns_left new bound after < turns_left old bound held
turn_less bound all old new held rest after x top k = let size = ap length top ∙ longer rest x in let le = k.less in omega arith

-- the bound of stamps is their number
pub bound_of : (bound : ℕ) (stamps : Stamps) → IsStamping stamps bound → IsStamping stamps (length stamps.stamps.items)
bound_of bound stamps h = subst (IsStamping stamps) (sym h.size) h

pub at_in : (xs : List ℕ) (i d : ℕ) → i < length xs → has xs (get_or xs i d) ≡ true
at_in [] i d lt = absurd (omega arith)
at_in (x ∷ xs) zero d lt = front_has x xs
at_in (x ∷ xs) (suc i) d lt = rest_has x (get_or xs i d) xs (at_in xs i d (omega arith))
