-- How a run of store calls goes on.
use Rattle.std.proofs.Common.{inl, inr, ⊎_elim, ℕ, arith}
use Rattle.jr_store.specs.Image.{Image, Elapses, LeavesOnly}

module _ {S : Type 0} (moment : S → ℕ) (left_since : S → ℕ → Image → Type 0) where
  -- before the first call
  pub started : (old : S) (P : Image → Type 0) → ((c : Image) → left_since old (moment old) c → P c) → LeavesOnly moment left_since old old P
  started old P here = record { later = omega arith; each = here; before = λ t c le left. inl left }

  -- one call more, after which a crash leaves what has P
  pub goes_on : (old mid new : S) (P may_leave : Image → Type 0) → LeavesOnly moment left_since old mid P → Elapses (moment mid) (moment new) (left_since mid) (left_since new) may_leave
      → ((c : Image) → may_leave c → P c) → LeavesOnly moment left_since old new P
  goes_on old mid new P may_leave so_far time here = record {
    later = omega (arith, so_far.later, time.later);
    each = λ c left. ⊎_elim (so_far.each c) (here c) (time.nothing_else (moment old) c so_far.later left);
    before = λ t c le left. ⊎_elim (so_far.before t c le) (λ now. inr (here c now)) (time.nothing_else t c (omega (arith, le, so_far.later)) left);
  }

  -- one run after another
  pub goes_further : (old mid new : S) (P Q : Image → Type 0) → LeavesOnly moment left_since old mid P → LeavesOnly moment left_since mid new Q
      → ((c : Image) → Q c → P c) → LeavesOnly moment left_since old new P
  goes_further old mid new P Q first second weaker = record {
    later = omega (arith, first.later, second.later);
    each = λ c left. ⊎_elim (first.each c) (weaker c) (second.before (moment old) c first.later left);
    before = λ t c le left. ⊎_elim (first.before t c le) (λ now. inr (weaker c now)) (second.before t c (omega (arith, le, first.later)) left);
  }

-- calls that only read
module _ {S : Type 0} (may_leave : S → Image → Type 0) (moment : S → ℕ) (left_since : S → ℕ → Image → Type 0) (s0 : S) (now : (c : Image) → left_since s0 (moment s0) c → may_leave s0 c) where
  pub read_never : LeavesOnly moment left_since s0 s0 (may_leave s0)
  read_never = started moment left_since s0 (may_leave s0) now

  module _ (s1 : S) (time1 : Elapses (moment s0) (moment s1) (left_since s0) (left_since s1) (may_leave s1)) (crash1 : (c : Image) → may_leave s1 c → may_leave s0 c) where
    pub read_once : LeavesOnly moment left_since s0 s1 (may_leave s0)
    read_once = goes_on moment left_since s0 s0 s1 (may_leave s0) (may_leave s1) read_never time1 crash1

    pub read_twice : (s2 : S) → Elapses (moment s1) (moment s2) (left_since s1) (left_since s2) (may_leave s2) → ((c : Image) → may_leave s2 c → may_leave s1 c) → LeavesOnly moment left_since s0 s2 (may_leave s0)
    read_twice s2 time2 crash2 = goes_on moment left_since s0 s1 s2 (may_leave s0) (may_leave s2) read_once time2 (λ c l. crash1 c (crash2 c l))
