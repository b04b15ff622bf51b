-- What links lead to from a number, a turn at a time.
use Rattle.std.proofs.Common.{◌≡◌, ◌⊎◌, refl, sym, ◌∙◌, ap, subst, inl, inr, ⊎_elim, arith, ℕ, zero, suc, ◌+◌, ◌<◌, ◌≤◌, Bool, true, false, cond, List, [], ◌∷◌, ◌++◌, length, length-append, Option, Some, None, nat_eq, Decides}
use Rattle.std.specs.Option.{MatchOption}
use Rattle.std.proofs.lemmas.Bool.{false≢true, cases_eq}
use Rattle.std.proofs.lemmas.Bool.Decides.{Decides-eqb}
use Rattle.std.proofs.lemmas.Option.{none-some, slice_get_past}
use Rattle.jr_plain.specs.Search.{has, Lists}
use Rattle.jr_plain.proofs.Tests.{like}
use Rattle.jr_plain.proofs.Searches.{among_append}
use Rattle.jr_places.specs.declared.chains.Entry.{Entry}
use Rattle.jr_places.specs.declared.stamps.Stamps.{Stamps}
use Rattle.jr_places.specs.Stamps.{is_now, is_stamped, IsStamping, IsEmptied, AddsStamp}
use Rattle.jr_dispatch.specs.Families.{LeadsTo, linked_at, IsLinkIn, with_if, unmet, turns_left, LinksAreBelow, PutsOne, IsPutting, IsSpreading}
use Rattle.jr_dispatch.proofs.Leading.{head_in, in_cons}

-- ---- lists

item_of : (y d : ℕ) → has (y ∷ []) d ≡ true → y ≡ d
item_of y d h = ⊎_elim (λ e. e) (λ n. absurd (false≢true n)) (in_cons y d [] h)

pushed : (xs : List ℕ) (y d : ℕ) → Decides (has (xs ++ y ∷ []) d) ((has xs d ≡ true) ⊎ (y ≡ d))
pushed xs y d = like (among_append nat_eq Decides-eqb xs (y ∷ []) d) (⊎_elim (λ h. inl h) (λ h. inr (item_of y d h))) (⊎_elim (λ h. inl h) (λ e. inr (subst (λ z. has (y ∷ []) z ≡ true) e (head_in y []))))

pub no_numbers : (xs : List ℕ) → length xs ≡ 0 → xs ≡ []
no_numbers [] e = refl
no_numbers (x ∷ xs) e = absurd (omega arith)

pub nothing_left : {A : Type 0} (o : Option A) (P Q : Type 0) (R : A → Type 0) → o ≡ None → MatchOption o (P × Q) R → P
nothing_left None P Q R e h = h.0
nothing_left (Some x) P Q R e h = absurd (none-some x (sym e))

pub longer : (xs : List ℕ) (y : ℕ) → length (xs ++ y ∷ []) ≡ suc (length xs)
longer xs y = let s = length-append xs (y ∷ []) in omega arith

-- ---- how many are not met

cell_le : (a b : Bool) (m n : ℕ) → (a ≡ true → b ≡ true) → m ≤ n → cond b 0 1 + m ≤ cond a 0 1 + n
cell_le true true m n h le = omega arith
cell_le true false m n h le = absurd (false≢true (h refl))
cell_le false true m n h le = omega arith
cell_le false false m n h le = omega arith

cell_lt : (a b : Bool) (m n : ℕ) → (a ≡ true → b ≡ true) → m < n → cond b 0 1 + m < cond a 0 1 + n
cell_lt true true m n h lt = omega arith
cell_lt true false m n h lt = absurd (false≢true (h refl))
cell_lt false true m n h lt = omega arith
cell_lt false false m n h lt = omega arith

cell_met : (a b : Bool) (m n : ℕ) → a ≡ false → b ≡ true → m ≤ n → cond b 0 1 + m < cond a 0 1 + n
cell_met true b m n e h le = absurd (false≢true (sym e))
cell_met false true m n e h le = omega arith
cell_met false false m n e h le = absurd (false≢true h)

module _ (old new : Stamps) (kept : (x : ℕ) → is_stamped old x ≡ true → is_stamped new x ≡ true) where
  pub unmet_kept : (n : ℕ) → unmet new n ≤ unmet old n
  unmet_kept zero = omega arith
  unmet_kept (suc n) = cell_le (is_stamped old n) (is_stamped new n) (unmet new n) (unmet old n) (kept n) (unmet_kept n)

  pub unmet_less : (n at : ℕ) → at < n → is_stamped old at ≡ false → is_stamped new at ≡ true → unmet new n < unmet old n
  unmet_less zero at lt was is = absurd (omega arith)
  unmet_less (suc n) at lt was is = ⊎_elim
      (λ same. cell_met (is_stamped old n) (is_stamped new n) (unmet new n) (unmet old n) (subst (λ z. is_stamped old z ≡ false) same was) (subst (λ z. is_stamped new z ≡ true) same is) (unmet_kept n))
      (λ apart. cell_lt (is_stamped old n) (is_stamped new n) (unmet new n) (unmet old n) (kept n) (unmet_less n at (omega arith) was is)) (cases_eq at n)

-- ---- one number

none_now : (stamps : Stamps) (n : ℕ) → length stamps.stamps.items ≤ n → is_stamped stamps n ≡ false
none_now stamps n past = ap (is_now stamps.round) (slice_get_past stamps.stamps.items n past)

pub stamped_below : (stamps : Stamps) (bound n : ℕ) → IsStamping stamps bound → is_stamped stamps n ≡ true → n < bound
stamped_below stamps bound n h is = ⊎_elim (λ lt. lt) (λ past. absurd (false≢true (sym (none_now stamps n (let size = h.size in omega arith)) ∙ is))) (split n bound)
  where
    split : (a b : ℕ) → (a < b) ⊎ (b ≤ a)
    split a zero = inr (omega arith)
    split zero (suc b) = inl (omega arith)
    split (suc a) (suc b) = ⊎_elim (λ lt. inl (omega arith)) (λ le. inr (omega arith)) (split a b)

pub put_one : (bound at : ℕ) (old new : Stamps) (before after : List ℕ) (is_new : Bool) → AddsStamp old new bound at is_new → after ≡ with_if is_new before at → PutsOne bound at old new before after
put_one bound at old new before after is_new h made = subst (λ xs. PutsOne bound at old new before xs) (sym made) (by is_new refl)
  where
    by : (b : Bool) → is_new ≡ b → PutsOne bound at old new before (with_if b before at)
    by true e = let fresh = h.new_one e in record {
      counted = h.counted;
      out = λ x is. ⊎_elim (λ a. inl a) (λ same. inr ((pushed before at x).1 (inr same))) (h.out x is);
      kept = λ x is. (pushed before at x).1 (inl is);
      from = λ x is. (pushed before at x).0 is;
      told = λ lt. inr ((pushed before at at).1 (inr refl));
      less = let more = longer before at in let few = unmet_less old new h.kept bound at (stamped_below new bound at h.counted fresh.1) fresh.0 fresh.1 in omega arith;
    }
    by false e = record {
      counted = h.counted;
      out = λ x is. ⊎_elim (λ a. inl a) (λ same. inl (subst (λ z. is_stamped old z ≡ true) same (h.was (stamped_below new bound at h.counted (subst (λ z. is_stamped new z ≡ true) (sym same) is)) e))) (h.out x is);
      kept = λ x is. is;
      from = λ x is. inl is;
      told = λ lt. inl (h.was lt e);
      less = let few = unmet_kept old new h.kept bound in omega arith;
    }

-- ---- a list of numbers

pub put_start : (bound : ℕ) (all given : List ℕ) (met : Stamps) (waiting : List ℕ) → given ≡ all → IsStamping met bound → IsPutting bound all met met waiting waiting given
put_start bound all given met waiting same counted = record {
  counted = counted;
  out = λ x is. inl is;
  kept = λ x is. is;
  from = λ x is. inl is;
  told = λ x is lt. inr (subst (λ xs. has xs x ≡ true) (sym same) is);
  less = omega arith;
}

pub put_next : (bound : ℕ) (all rows rest : List ℕ) (old mid new : Stamps) (before between after : List ℕ) (y : ℕ) → rows ≡ y ∷ rest → has all y ≡ true → PutsOne bound y mid new between after → IsPutting bound all old mid before between rows
    → IsPutting bound all old new before after rest
put_next bound all rows rest old mid new before between after y e at k h = record {
  counted = k.counted;
  out = λ x is. ⊎_elim (λ a. ⊎_elim (λ b. inl b) (λ b. inr (k.kept x b)) (h.out x a)) (λ a. inr a) (k.out x is);
  kept = λ x is. k.kept x (h.kept x is);
  from = λ x is. ⊎_elim (λ a. h.from x a) (λ same. inr (subst (λ z. has all z ≡ true) same at)) (k.from x is);
  told = λ x is lt. ⊎_elim (λ a. inl (moved x a)) (λ a. ⊎_elim (λ same. inl (subst (λ z. (is_stamped old z ≡ true) ⊎ (has after z ≡ true)) same (here (subst (λ z. z < bound) (sym same) lt)))) (λ r. inr r) (in_cons y x rest (subst (λ xs. has xs x ≡ true) e a))) (h.told x is lt);
  less = let one = k.less in let two = h.less in omega arith;
}
  where
    moved : (x : ℕ) → (is_stamped old x ≡ true) ⊎ (has between x ≡ true) → (is_stamped old x ≡ true) ⊎ (has after x ≡ true)
    moved x (inl a) = inl a
    moved x (inr a) = inr (k.kept x a)

    here : y < bound → (is_stamped old y ≡ true) ⊎ (has after y ≡ true)
    here lt = ⊎_elim (λ a. moved y (h.out y a)) (λ a. inr a) (k.told lt)

pub put_end : (bound : ℕ) (all rest : List ℕ) (old new : Stamps) (before after : List ℕ) → rest ≡ [] → IsPutting bound all old new before after rest → IsPutting bound all old new before after []
put_end bound all rest old new before after none h = subst (λ xs. IsPutting bound all old new before after xs) none h

pub put_as : (bound : ℕ) (all given : List ℕ) (old new : Stamps) (before after : List ℕ) → given ≡ all → IsPutting bound given old new before after [] → IsPutting bound all old new before after []
put_as bound all given old new before after same h = subst (λ xs. IsPutting bound xs old new before after []) same h

-- ---- from number to number

module _ (links : List Entry) (m bound : ℕ) where
  pub spread_start : (empty met : Stamps) (is_new : Bool) (none waiting done : List ℕ) → IsEmptied empty bound → AddsStamp empty met bound m is_new → none ≡ [] → waiting ≡ none ++ m ∷ [] → done ≡ [] → IsSpreading links m bound met waiting done
  spread_start empty met is_new none waiting done emptied h nothing one also =
      subst (λ xs. IsSpreading links m bound met xs done) (sym (one ∙ ap (λ xs. xs ++ m ∷ []) nothing)) (subst (λ xs. IsSpreading links m bound met (m ∷ []) xs) (sym also) (record {
        counted = h.counted;
        out = λ x is. ⊎_elim (λ a. absurd (false≢true (sym (emptied.none x) ∙ a))) (λ same. inr (subst (λ z. has (m ∷ []) z ≡ true) same (head_in m []))) (h.out x is);
        start = inr (head_in m []);
        sound = λ x at. ⊎_elim (λ a. absurd (false≢true a)) (λ a. subst (λ z. LeadsTo (IsLinkIn links) m z) (item_of m x a) LeadsTo.itself) at;
        closed = λ x y at. absurd (false≢true at);
      }))

  pub spread_next : (old new : Stamps) (held rest after done more : List ℕ) (x : ℕ) → held ≡ rest ++ x ∷ [] → more ≡ done ++ x ∷ [] → IsSpreading links m bound old held done → IsPutting bound (linked_at links x) old new rest after []
      → IsSpreading links m bound new after more
  spread_next old new held rest after done more x top made h k = record {
    counted = k.counted;
    out = λ y is. ⊎_elim (λ a. moved y (h.out y a)) (λ a. inr a) (k.out y is);
    start = moved m h.start;
    sound = sound;
    closed = closed;
  }
    where
      done_in : (y : ℕ) → has done y ≡ true → has more y ≡ true
      done_in y at = subst (λ xs. has xs y ≡ true) (sym made) ((pushed done x y).1 (inl at))

      here_in : has more x ≡ true
      here_in = subst (λ xs. has xs x ≡ true) (sym made) ((pushed done x x).1 (inr refl))

      more_of : (y : ℕ) → has more y ≡ true → (has done y ≡ true) ⊎ (x ≡ y)
      more_of y at = (pushed done x y).0 (subst (λ xs. has xs y ≡ true) made at)

      held_of : (y : ℕ) → has held y ≡ true → (has rest y ≡ true) ⊎ (x ≡ y)
      held_of y at = (pushed rest x y).0 (subst (λ xs. has xs y ≡ true) top at)

      rest_held : (y : ℕ) → has rest y ≡ true → has held y ≡ true
      rest_held y at = subst (λ xs. has xs y ≡ true) (sym top) ((pushed rest x y).1 (inl at))

      top_held : has held x ≡ true
      top_held = subst (λ xs. has xs x ≡ true) (sym top) ((pushed rest x x).1 (inr refl))

      moved : (y : ℕ) → (has done y ≡ true) ⊎ (has held y ≡ true) → (has more y ≡ true) ⊎ (has after y ≡ true)
      moved y (inl a) = inl (done_in y a)
      moved y (inr a) = ⊎_elim (λ b. inr (k.kept y b)) (λ same. inl (subst (λ z. has more z ≡ true) same here_in)) (held_of y a)

      way : LeadsTo (IsLinkIn links) m x
      way = h.sound x (inr top_held)

      sound : (y : ℕ) → (has more y ≡ true) ⊎ (has after y ≡ true) → LeadsTo (IsLinkIn links) m y
      sound y (inl a) = ⊎_elim (λ b. h.sound y (inl b)) (λ same. subst (λ z. LeadsTo (IsLinkIn links) m z) same way) (more_of y a)
      sound y (inr a) = ⊎_elim (λ b. h.sound y (inr (rest_held y b))) (λ b. LeadsTo.further way b) (k.from y a)

      of_top : (z : ℕ) → IsLinkIn links x z → z < bound → (has more z ≡ true) ⊎ (has after z ≡ true)
      of_top z link lt = ⊎_elim (⊎_elim (λ a. moved z (h.out z a)) (λ a. inr a)) (λ none. absurd (false≢true none)) (k.told z link lt)

      closed : (y z : ℕ) → has more y ≡ true → IsLinkIn links y z → z < bound → (has more z ≡ true) ⊎ (has after z ≡ true)
      closed y z at link lt = ⊎_elim (λ a. moved z (h.closed y z a link lt)) (λ same. of_top z (subst (λ w. IsLinkIn links w z) (sym same) link) lt) (more_of y at)

  pub spread_end : (met : Stamps) (waiting done : List ℕ) → waiting ≡ [] → LinksAreBelow links bound → IsSpreading links m bound met waiting done → Lists done (LeadsTo (IsLinkIn links) m)
  spread_end met waiting done none below h x = ((λ at. h.sound x (inl at)), into x)
    where
      only : (y : ℕ) → (has done y ≡ true) ⊎ (has waiting y ≡ true) → has done y ≡ true
      only y at = ⊎_elim (λ a. a) (λ a. absurd (false≢true (subst (λ xs. has xs y ≡ true) none a))) at

      into : (y : ℕ) → LeadsTo (IsLinkIn links) m y → has done y ≡ true
      into y LeadsTo.itself = only m h.start
      into y (LeadsTo.further {j = j} more e) = only y (h.closed j y (into j more) e (below j y e))

pub turn_less : (bound : ℕ) (all : List ℕ) (old new : Stamps) (held rest after : List ℕ) (x : ℕ) → held ≡ rest ++ x ∷ [] → IsPutting bound all old new rest after [] → turns_left new bound after < turns_left old bound held
turn_less bound all old new held rest after x top k = let size = ap length top ∙ longer rest x in let le = k.less in omega arith
