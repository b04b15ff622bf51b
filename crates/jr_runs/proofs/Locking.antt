-- Each row that is no qualifier stands at its copy, and refers there to its lock.
use Rattle.std.proofs.Common.{◌≡◌, refl, sym, ◌∙◌, ap, subst, ℕ, zero, suc, ◌+◌, ◌<◌, Bool, true, false, cond, ◌&&◌, List, [], ◌∷◌, ◌++◌, length, Option, Some, None, ⊎_elim, arith, append_assoc, length-append}
use Rattle.std.specs.Prelude.{slice_get, slice_index_or, nat_eq}
use Rattle.std.proofs.lemmas.Bool.{cases_lt, false≢true}
use Rattle.std.proofs.lemmas.Option.{slice_get_within}
use Rattle.std.proofs.Math.ListN.{get_or-append}
use Rattle.std.proofs.Math.Seq.{get_or-append_seam}
use Rattle.std.proofs.lemmas.Bool.Decides.{Decides-eqb}
use Rattle.jr_tree.specs.Rows.{Rows}
use Rattle.jr_defs.specs.declared.referent.Referent.{Referent}
use Rattle.jr_defs.specs.declared.referent.Referent.TheVariants.{Unbound, Ambiguous, ArrayLength, Package, Declared}
use Rattle.jr_defs.specs.Referents.{Table}
use Rattle.jr_defs.specs.Correspondence.{moved}
use Rattle.jr_shapes.specs.declared.spelling.Spelling.{Spelling}
use Rattle.jr_runs.specs.declared.item.Item.{Item}
use Rattle.jr_runs.specs.Marks.{Marks, marks, is_dropped, front_at, chosen_at}
use Rattle.jr_runs.specs.Forms.{of_row, spelled, spelling_at, turned}
use Rattle.jr_runs.specs.Plans.{Plan, plan_by, runs_to, run, kept_run, before_own, own_at, own_item, back_by, found_by, front_over}
use Rattle.jr_runs.specs.Suits.{is_lock, is_declaration, suits}
use Rattle.jr_runs.specs.Respelled.{IsRespelled, copy}
use Rattle.jr_runs.specs.Locked.{IsMovedLock, HasCopy}

-- ---- items of lists that are joined

get_left : (a b : List Item) (i : ℕ) (x : Item) → slice_get a i ≡ Some x → slice_get (a ++ b) i ≡ Some x
get_left [] b i x h = cc
get_left (y ∷ a) b zero x h = h
get_left (y ∷ a) b (suc i) x h = get_left a b i x h

get_seam : (a b : List Item) (x : Item) → slice_get (a ++ x ∷ b) (length a) ≡ Some x
get_seam [] b x = refl
get_seam (y ∷ a) b x = get_seam a b x

if_false : {A : Type 0} (b : Bool) (x y : A) → b ≡ false → cond b x y ≡ y
if_false true x y h = cc
if_false false x y h = refl

module _ (p : Rows) (t : Table) (c : List Spelling) (m : Marks) (back : List Bool) where
  made : ℕ → Plan
  made k = runs_to p t c m back k

  copies_counted : (k : ℕ) → length (made k).copies ≡ k
  unfolding made
  copies_counted zero = refl
  copies_counted (suc k) = let h = copies_counted k in let e = length-append (runs_to p t c m back k).copies (own_at p c m k (length (runs_to p t c m back k).items) ∷ []) in omega (arith, h, e)

  -- the row itself, in its run
  own : ℕ → Item
  own n = own_item p t c m back n (front_over p c n (front_at m n) (length (runs_to p t c m back n).items))

  in_own_run : (n : ℕ) → is_dropped m n ≡ false → slice_get (made (suc n)).items (own_at p c m n (length (made n).items)) ≡ Some (own n)
  unfolding made own
  in_own_run n stays =
      let before = (runs_to p t c m back n).items in
      let at = length before in
      let front = before_own p c m n at in
      let behind = back_by p t n (spelling_at c m n) (at + length front) in
      let e : before ++ run p t c m back n at ≡ (before ++ front) ++ own_item p t c m back n (front_over p c n (front_at m n) at) ∷ behind =
      ap (λ xs. before ++ xs) (if_false (is_dropped m n) [] (kept_run p t c m back n at) stays) ∙ sym (append_assoc before front (own_item p t c m back n (front_over p c n (front_at m n) at) ∷ behind)) in
      let k : own_at p c m n at ≡ length (before ++ front) = if_false (is_dropped m n) at (at + length front) stays ∙ sym (length-append before front) in
      ap (λ i. slice_get (before ++ run p t c m back n at) i) k ∙ ap (λ xs. slice_get xs (length (before ++ front))) e ∙ get_seam (before ++ front) behind (own_item p t c m back n (front_over p c n (front_at m n) at))

  copy_told : (n : ℕ) → slice_index_or (made (suc n)).copies n 0 ≡ own_at p c m n (length (made n).items)
  unfolding made
  copy_told n = let h = copies_counted n in last n (runs_to p t c m back n).copies (own_at p c m n (length (runs_to p t c m back n).items)) (sym h)
    where
      last : (n : ℕ) (xs : List ℕ) (y : ℕ) → n ≡ length xs → slice_index_or (xs ++ y ∷ []) n 0 ≡ y
      last n xs y e = rw e (get_or-append_seam xs y [] 0)

  -- and among all rows
  stands_there : (n k : ℕ) → n < k → is_dropped m n ≡ false → slice_get (made k).items (slice_index_or (made k).copies n 0) ≡ Some (own n)
  unfolding made own
  stands_there n zero lt stays = absurd (omega arith)
  stands_there n (suc k) lt stays = ⊎_elim
      (λ below.
      let x = runs_to p t c m back k in
      let new = own_at p c m k (length x.items) in
      let h = stands_there n k below stays in
      let same : slice_index_or (x.copies ++ new ∷ []) n 0 ≡ slice_index_or x.copies n 0 = get_or-append x.copies (new ∷ []) 0 n (let e = copies_counted k in omega (arith, e, below)) in
      ap (λ i. slice_get (x.items ++ run p t c m back k (length x.items)) i) same ∙ get_left x.items (run p t c m back k (length x.items)) (slice_index_or x.copies n 0) (own n) h)
      (λ here.
      let e : n ≡ k = omega (arith, here, lt) in
      let P : ℕ → Type 0 = λ j. slice_get (made (suc j)).items (slice_index_or (made (suc j)).copies n 0) ≡ Some (own n) in
      subst P e (ap (λ i. slice_get (made (suc n)).items i) (copy_told n) ∙ in_own_run n stays))
      (cases_lt n k)

-- ---- locks

moved_is : (f : ℕ → ℕ) (lock : Referent) → IsMovedLock f lock (moved f lock)
moved_is f Unbound = refl
moved_is f Ambiguous = refl
moved_is f ArrayLength = refl
moved_is f Package = refl
moved_is f (Declared d level) = (_, refl)

declared_is : (f : ℕ → ℕ) (d : ℕ) (found : Referent) → is_declaration d found ≡ true → (other : Option ℕ) × (moved f found ≡ Declared (f d) other)
declared_is f d Unbound h = absurd (false≢true h)
declared_is f d Ambiguous h = absurd (false≢true h)
declared_is f d ArrayLength h = absurd (false≢true h)
declared_is f d Package h = absurd (false≢true h)
declared_is f d (Declared e level) h = let same = (Decides-eqb e d).0 h in let P : ℕ → Type 0 = λ k. (other : Option ℕ) × (moved f (Declared e level) ≡ Declared (f k) other) in subst P same (_, refl)

lock_is : (f : ℕ → ℕ) (lock found : Referent) → is_lock lock found ≡ true → IsMovedLock f lock (moved f found)
lock_is f (Declared d level) found h = declared_is f d found h
lock_is f Unbound Unbound h = refl
lock_is f Unbound Ambiguous h = absurd (false≢true h)
lock_is f Unbound ArrayLength h = absurd (false≢true h)
lock_is f Unbound Package h = absurd (false≢true h)
lock_is f Unbound (Declared e level) h = absurd (false≢true h)
lock_is f Ambiguous Ambiguous h = refl
lock_is f Ambiguous Unbound h = absurd (false≢true h)
lock_is f Ambiguous ArrayLength h = absurd (false≢true h)
lock_is f Ambiguous Package h = absurd (false≢true h)
lock_is f Ambiguous (Declared e level) h = absurd (false≢true h)
lock_is f ArrayLength ArrayLength h = refl
lock_is f ArrayLength Unbound h = absurd (false≢true h)
lock_is f ArrayLength Ambiguous h = absurd (false≢true h)
lock_is f ArrayLength Package h = absurd (false≢true h)
lock_is f ArrayLength (Declared e level) h = absurd (false≢true h)
lock_is f Package Package h = refl
lock_is f Package Unbound h = absurd (false≢true h)
lock_is f Package Ambiguous h = absurd (false≢true h)
lock_is f Package ArrayLength h = absurd (false≢true h)
lock_is f Package (Declared e level) h = absurd (false≢true h)

-- ---- a spelling that suits refers to its lock

first : (a b : Bool) → (a && b) ≡ true → a ≡ true
first true b h = refl
first false b h = h

second : (a b : Bool) → (a && b) ≡ true → b ≡ true
second true b h = h
second false b h = absurd (false≢true h)

suited_lock : (p : Rows) (t : Table) (m : Marks) (i : ℕ) (s : Spelling) → suits p t m i s ≡ true → is_lock (t s.row) s.found ≡ true
suited_lock p t m i s h = second _ _ (first _ _ (first _ _ (second _ _ h)))

-- what is found at a row, if it is spelled, is its lock
abbrev IsLockOf : Table → ℕ → Option Spelling → Type 0
IsLockOf t n (Some s) = is_lock (t n) s.found ≡ true
IsLockOf t n None = Unit {0}

-- what is spelled at a row is a spelling of that row
module _ (p : Rows) (t : Table) (c : List Spelling) (m : Marks) (fit : (i : ℕ) (s : Spelling) → i < length c → slice_get c i ≡ Some s → suits p t m i s ≡ true) where
  row_lock : (n i : ℕ) (o : Option Spelling) → slice_get c i ≡ o → IsLockOf t n (of_row n o)
  row_lock n i None e = tt
  row_lock n i (Some s) e = by (nat_eq s.row n) refl
    where
      by : (b : Bool) → nat_eq s.row n ≡ b → IsLockOf t n (cond b (Some s) None)
      by true h = let same = (Decides-eqb s.row n).0 h in let P : ℕ → Type 0 = λ k. is_lock (t k) s.found ≡ true in subst P same (suited_lock p t m i s (fit i s (slice_get_within c i s e) e))
      by false h = tt

  spelled_lock : (n : ℕ) (o : Option ℕ) → IsLockOf t n (spelled c n o)
  spelled_lock n None = tt
  spelled_lock n (Some i) = row_lock n i (slice_get c i) refl

found_is : (f : ℕ → ℕ) (t : Table) (n : ℕ) (o : Option Spelling) → IsLockOf t n o → IsMovedLock f (t n) (moved f (found_by o (t n)))
found_is f t n None h = moved_is f (t n)
found_is f t n (Some s) h = lock_is f (t n) s.found h

pub kept : (p : Rows) (t : Table) (c : List Spelling) (q : Rows) (v : Table) → IsRespelled p t c q v → (n : ℕ) → n < length p → is_dropped (marks p t c) n ≡ false → HasCopy t (plan_by p t c (marks p t c)) q v n
unfolding made own
kept p t c q v h n lt stays =
    let m = marks p t c in
    let back = turned p c m in
    let x = plan_by p t c m in
    let there = stands_there p t c m back n (length p) lt stays in
    let at = h.written.stand.each (copy x n) (own p t c m back n) (slice_get_within x.items (copy x n) (own p t c m back n) there) there in
    let P : Referent → Type 0 = λ r. IsMovedLock (copy x) (t n) r in
    record { there = at.there; bound = subst P (sym at.refers) (found_is (copy x) t n (spelling_at c m n) (spelled_lock p t c m h.suited.each n (chosen_at m n))) }
