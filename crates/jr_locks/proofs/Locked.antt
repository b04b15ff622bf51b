-- What a row must refer to, by what is told of copies.
use Rattle.std.proofs.Common.{◌≡◌, ◌≢◌, refl, sym, ◌∙◌, ap, subst, ⊎_elim, arith, ℕ, ◌+◌, ◌<◌, Bool, true, false, ◌||◌, List, [], ◌∷◌, ◌++◌, length, Option, Some, None, nat_eq}
use Rattle.std.specs.Prelude.{if◌then◌else◌, zero, suc, slice_set, slice_index_or}
use Rattle.std.proofs.lemmas.Bool.{cases_lt, true≢false}
use Rattle.std.proofs.lemmas.Bool.Decides.{Decides-eqb}
use Rattle.std.proofs.lemmas.List.{length-set, get_or_default, get_or-set_other, get_or_append_left, get_or_push, length_push}
use Rattle.jr_defs.specs.declared.referent.Referent.{Referent}
use Rattle.jr_defs.specs.declared.referent.Referent.TheVariants.{Unbound, Ambiguous, ArrayLength, Package, Declared}
use Rattle.jr_defs.specs.Referents.{Table, entries}
use Rattle.jr_change.specs.declared.change.Added.{Added}
use Rattle.jr_change.specs.declared.change.Raised.{Raised}
use Rattle.jr_change.specs.declared.change.RowRange.{RowRange}
use Rattle.jr_locks.specs.Origins.{no_row, origin_of}
use Rattle.jr_locks.specs.Copies.{AreTold, AreToldNear, AreAllTold, AreMade, IsSeen, seen, unseen, old_count, near_in, seen_in, or_first, over_level, at_level, copy_at, moved_in, lock_in, KeepsOthers}
use Rattle.jr_locks.specs.declared.moving.Copies.{Copies}
use Rattle.jr_locks.specs.Locked.{IsSeenFrom, beside, beyond, every, is_beside, no_level, at_copy, IsLockOf, unbound, ambiguous, array_length, a_package, copied, gone, gone_over, raised_to, HasLock, AllLocked, is_added}

-- ---- one declaration

near_seen : (range : Option RowRange) (origin near : List ℕ) (old n d : ℕ) → AreToldNear range (is_beside range n) origin old near → origin_of near d ≢ no_row
    → IsSeenFrom range origin old n d (origin_of near d)
near_seen None origin near old n d none some = absurd (some (ap (λ xs. origin_of xs d) none))
near_seen (Some range) origin near old n d h some = beside (h.first d some)

first_seen : (range : Option RowRange) (origin near first : List ℕ) (old n d : ℕ) → AreToldNear range (is_beside range n) origin old near → origin_of near d ≡ no_row → AreTold every origin old first
    → origin_of first d ≢ no_row → IsSeenFrom range origin old n d (origin_of first d)
first_seen None origin near first old n d h none all some = let f = all.first d some in beside (record { copy = f.copy; one = refl; first = λ e lt one is. f.first e lt refl is })
first_seen (Some range) origin near first old n d h none all some = beyond (h.whole d none) (all.first d some)

module _ (origin : List ℕ) (c : Copies) (h : AreAllTold origin c) (n : ℕ) where
  seen_so : (d : ℕ) → IsSeen c.range origin (old_count c) n d (seen_in c n d)
  seen_so d = by (nat_eq (origin_of (near_in c n) d) no_row) refl
    where
      by_first : (b : Bool) → nat_eq (origin_of c.first.items d) no_row ≡ b → origin_of (near_in c n) d ≡ no_row → IsSeen c.range origin (old_count c) n d (if b then None else Some (origin_of c.first.items d))
      by_first true none also = unseen (h.first.whole d ((Decides-eqb (origin_of c.first.items d) no_row).0 none))
      by_first false some also = seen (first_seen c.range origin (near_in c n) c.first.items (old_count c) n d (h.near n) also h.first
          (λ e. true≢false (sym ((Decides-eqb (origin_of c.first.items d) no_row).1 e) ∙ some)))

      by : (b : Bool) → nat_eq (origin_of (near_in c n) d) no_row ≡ b → IsSeen c.range origin (old_count c) n d (or_first (if b then None else Some (origin_of (near_in c n) d)) c d)
      by true none = by_first (nat_eq (origin_of c.first.items d) no_row) refl ((Decides-eqb (origin_of (near_in c n) d) no_row).0 none)
      by false some = seen (near_seen c.range origin (near_in c n) (old_count c) n d (h.near n) (λ e. true≢false (sym ((Decides-eqb (origin_of (near_in c n) d) no_row).1 e) ∙ some)))

  over_so : (copy d s : ℕ) (found : Option ℕ) → IsSeenFrom c.range origin (old_count c) n d copy → IsSeen c.range origin (old_count c) n s found
      → IsLockOf c.range origin (old_count c) n (Declared d (Some s)) (over_level copy found)
  over_so copy d s (Some over) is (seen also) = copied is (at_copy also)
  over_so copy d s None is (unseen none) = gone_over none

  level_so : (copy d : ℕ) (level : Option ℕ) → IsSeenFrom c.range origin (old_count c) n d copy → IsLockOf c.range origin (old_count c) n (Declared d level) (at_level c n copy level)
  level_so copy d None is = copied is no_level
  level_so copy d (Some s) is = over_so copy d s (seen_in c n s) is (seen_so s)

  copy_so : (d : ℕ) (level found : Option ℕ) → IsSeen c.range origin (old_count c) n d found → IsLockOf c.range origin (old_count c) n (Declared d level) (copy_at c n found level)
  copy_so d level (Some copy) (seen is) = level_so copy d level is
  copy_so d level None (unseen none) = gone none

  moved_so : (target : Referent) → IsLockOf c.range origin (old_count c) n target (moved_in c n target)
  moved_so (Declared d level) = copy_so d level (seen_in c n d) (seen_so d)
  moved_so Unbound = unbound
  moved_so Ambiguous = ambiguous
  moved_so ArrayLength = array_length
  moved_so Package = a_package

  lock_so : (t : Table) (raised : Option Raised) → HasLock c.range origin (old_count c) t raised n (lock_in c raised t n (origin_of origin n))
  lock_so t raised real = by (nat_eq (origin_of origin n) no_row) refl
    where
      by : (b : Bool) → nat_eq (origin_of origin n) no_row ≡ b → IsLockOf c.range origin (old_count c) n (raised_to raised (origin_of origin n) (t (origin_of origin n)))
          (if b then Unbound else moved_in c n (raised_to raised (origin_of origin n) (t (origin_of origin n))))
      by true none = absurd (real ((Decides-eqb (origin_of origin n) no_row).0 none))
      by false some = moved_so (raised_to raised (origin_of origin n) (t (origin_of origin n)))

-- ---- one row more

module _ (inner : Option RowRange) (origin : List ℕ) (old : ℕ) (t : Table) (raised : Option Raised) where
  none_locked : (all : List Referent) → AllLocked inner origin old t raised [] (entries all) 0
  none_locked all = record { each = λ n lt said. absurd (omega (arith, lt)) }

  locked_more : (all : List Referent) (lock : Referent) (k : ℕ) → length all ≡ k → AllLocked inner origin old t raised [] (entries all) k → HasLock inner origin old t raised k lock
      → AllLocked inner origin old t raised [] (entries (all ++ lock ∷ [])) (k + 1)
  locked_more all lock k long h now = record {
    each = λ n lt said real. ⊎_elim
        (λ below. subst (λ r. IsLockOf inner origin old n (raised_to raised (origin_of origin n) (t (origin_of origin n))) r)
        (sym (get_or_append_left all (lock ∷ []) Unbound n (omega (arith, below, long)))) (h.each n below said real))
        (λ here. let e : n ≡ k = omega (arith, here, lt) in
        subst (λ m. HasLock inner origin old t raised m (entries (all ++ lock ∷ []) m)) (sym e)
        (λ some. subst (λ r. IsLockOf inner origin old k (raised_to raised (origin_of origin k) (t (origin_of origin k))) r) (sym (get_or_push all lock Unbound k long)) (now some)) real)
        (cases_lt n k);
  }

  locked_beside : (added : List Added) (all next : List Referent) (count : ℕ) → AllLocked inner origin old t raised [] (entries all) count → KeepsOthers added all next
      → AllLocked inner origin old t raised added (entries next) count
  locked_beside added all next count h kept = record {
    each = λ n lt said real.
        subst (λ r. IsLockOf inner origin old n (raised_to raised (origin_of origin n) (t (origin_of origin n))) r) (sym (kept.each n said)) (h.each n lt refl real);
  }

pub none_made : (origin : List ℕ) (c : Copies) (t : Table) (raised : Option Raised) → AreMade origin c t raised [] 0
none_made origin c t raised = record { long = refl; locked = none_locked c.range origin (old_count c) t raised [] }

pub made_next : (origin : List ℕ) (c : Copies) (t : Table) (raised : Option Raised) (all : List Referent) (lock : Referent) (k n from : ℕ) → AreAllTold origin c → n ≡ k → from ≡ origin_of origin k
    → lock ≡ lock_in c raised t n from → AreMade origin c t raised all k → AreMade origin c t raised (all ++ lock ∷ []) (k + 1)
made_next origin c t raised all lock k n from told same is made h = record {
  long = length_push all lock ∙ ap (λ m. m + 1) h.long;
  locked = locked_more c.range origin (old_count c) t raised all lock k h.long h.locked
      (subst (λ r. HasLock c.range origin (old_count c) t raised k r) (sym (made ∙ ap (λ m. lock_in c raised t m from) same ∙ ap (lock_in c raised t k) is)) (lock_so origin c told k t raised));
}

-- ---- added rows

pub keeps_all : (added : List Added) (all : List Referent) → KeepsOthers added all all
keeps_all added all = record { count = refl; each = λ n said. refl }

first_not : (b c : Bool) → (b || c) ≡ false → b ≡ false
first_not true c e = absurd (true≢false e)
first_not false c e = refl

rest_not : (b c : Bool) → (b || c) ≡ false → c ≡ false
rest_not true c e = absurd (true≢false e)
rest_not false c e = e

not_said : (added : List Added) (i n : ℕ) (one : Added) → i < length added → one ≡ slice_index_or added i one → is_added added n ≡ false → nat_eq one.row n ≡ true → ⊥
not_said [] i n one lt is said here = absurd (omega (arith, lt))
not_said (a ∷ rest) zero n one lt is said here = true≢false (sym here ∙ ap (λ (x : Added). nat_eq x.row n) is ∙ first_not (nat_eq a.row n) (is_added rest n) said)
not_said (a ∷ rest) (suc i) n one lt is said here = not_said rest i n one (omega (arith, lt)) is (rest_not (nat_eq a.row n) (is_added rest n) said) here

keeps_more : (added : List Added) (i : ℕ) (one : Added) (old new next : List Referent) (lock : Referent) → i < length added → one ≡ slice_index_or added i one
    → KeepsOthers added old new → next ≡ slice_set new one.row lock → KeepsOthers added old next
keeps_more added i one old new next lock lt is h set = record {
  count = ap length set ∙ length-set new one.row lock ∙ h.count;
  each = λ n said. ap (λ all. entries all n) set
      ∙ get_or-set_other new one.row n lock Unbound (λ e. not_said added i n one lt is said ((Decides-eqb one.row n).1 (sym e))) ∙ h.each n said;
}

pub keeps_at : (added : List Added) (i : ℕ) (d : Added) (old new next : List Referent) (lock : Referent) → i < length added → KeepsOthers added old new
    → next ≡ slice_set new (slice_index_or added i d).row lock → KeepsOthers added old next
keeps_at added i d old new next lock lt h set = keeps_more added i (slice_index_or added i d) old new next lock lt (get_or_default added i d (slice_index_or added i d) lt) h set

pub locked_by : (origin : List ℕ) (c : Copies) (inner : Option RowRange) (old : ℕ) (t : Table) (raised : Option Raised) (added : List Added) (all next : List Referent) → old_count c ≡ old
    → c.range ≡ inner → AreMade origin c t raised all (length origin) → KeepsOthers added all next → AllLocked inner origin old t raised added (entries next) (length origin)
locked_by origin c inner old t raised added all next count is made kept =
    subst (λ (r : Option RowRange). AllLocked r origin old t raised added (entries next) (length origin)) is
    (subst (λ n. AllLocked c.range origin n t raised added (entries next) (length origin)) count
    (locked_beside c.range origin (old_count c) t raised added all next (length origin) made.locked kept))
