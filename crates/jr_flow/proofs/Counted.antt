-- One point more that has a number, and one place more.
use Rattle.std.proofs.Common.{◌≡◌, ◌⊎◌, inl, inr, ⊎_elim, refl, sym, ◌∙◌, ap, subst, arith, ℕ, zero, suc, ◌+◌, ◌<◌, ◌≤◌, Bool, true, false, List, [], ◌∷◌, ◌++◌, length, length-append, Option, Some, None, slice_get, slice_set}
use Rattle.std.proofs.lemmas.Bool.{false≢true, cases_lt, cases_eq}
use Rattle.std.proofs.lemmas.Option.{none-some, same_Some, slice_get_within}
use Rattle.jr_flow_defs.specs.declared.point.Point.{Point}
use Rattle.jr_flow_defs.specs.declared.point.PointKind.{PointKind}
use Rattle.jr_flow_defs.specs.declared.point.PointKind.TheVariants as kind
use Rattle.jr_flow_defs.specs.Edges.{point, own_number}
use Rattle.jr_flow.specs.declared.numbering.Numbering.{Numbering}
use Rattle.jr_flow.specs.Numbered.{points_in, taken_in, numbers_in, is_free, IsAtBody, HasOwn, IsTaken, TakesNumber, Matches, HaveNumbers, count_points}
use Rattle.jr_flow.proofs.Gets.{front_get, get_pushed, get_last, get_set_same, get_set_other, set_length}

own_below : (x : PointKind) (k : ℕ) → own_number x ≡ Some k → k < 3
own_below kind.Entry k e = let same = same_Some 0 k e in omega (arith, same)
own_below kind.Exit k e = let same = same_Some 1 k e in omega (arith, same)
own_below kind.Thrown k e = let same = same_Some 2 k e in omega (arith, same)
own_below kind.Node k e = absurd (none-some k e)
own_below (kind.Definition d) k e = absurd (none-some k e)
own_below (kind.Use d) k e = absurd (none-some k e)

own_stands : (body : ℕ) (numbering : Numbering) (row : ℕ) (x : PointKind) (k : ℕ) → HasOwn body numbering → row ≡ body → own_number x ≡ Some k → slice_get (points_in numbering) k ≡ point row x
own_stands body numbering row kind.Entry k h at e = ap (slice_get (points_in numbering)) (sym (same_Some 0 k e)) ∙ h.entry ∙ ap (λ r. point r kind.Entry) (sym at)
own_stands body numbering row kind.Exit k h at e = ap (slice_get (points_in numbering)) (sym (same_Some 1 k e)) ∙ h.exit ∙ ap (λ r. point r kind.Exit) (sym at)
own_stands body numbering row kind.Thrown k h at e = ap (slice_get (points_in numbering)) (sym (same_Some 2 k e)) ∙ h.thrown ∙ ap (λ r. point r kind.Thrown) (sym at)
own_stands body numbering row kind.Node k h at e = absurd (none-some k e)
own_stands body numbering row (kind.Definition d) k h at e = absurd (none-some k e)
own_stands body numbering row (kind.Use d) k h at e = absurd (none-some k e)

-- ---- a number that is taken

pub number_taken : (body : ℕ) (old new : Numbering) (x : Point) (n : ℕ) → HasOwn body old → IsAtBody body x → own_number x.kind ≡ Some n → slice_get (taken_in old) n ≡ Some false
    → points_in new ≡ points_in old → taken_in new ≡ slice_set (taken_in old) n true → numbers_in new ≡ numbers_in old → TakesNumber old new x n
number_taken body old new x n h at own free points taken numbers = record {
  kept = λ k y e. ap (λ xs. slice_get xs k) points ∙ e;
  stands = here;
  own = λ k e. same_Some n k (sym own ∙ e);
  fresh = λ k t e. let lt = own_below x.kind n own in absurd (false≢true (same_Some false true (sym free ∙ ap (slice_get (taken_in old)) (sym e) ∙ t.own (omega (arith, lt, e)))));
  still = λ k t. record { inside = subst (λ xs. k < length xs) (sym points) t.inside; own = λ lt. by k (cases_eq k n) (t.own lt) };
  is_taken = record { inside = slice_get_within (points_in new) n x here; own = λ lt. set_here };
  every = λ k least lt. inl (subst (λ xs. k < length xs) points lt);
  three = ap length taken ∙ set_length (taken_in old) n true ∙ h.three;
  numbers = numbers;
}
  where
    here : slice_get (points_in new) n ≡ Some x
    here = ap (λ xs. slice_get xs n) points ∙ own_stands body old x.row x.kind n h (at n own) own

    set_here : slice_get (taken_in new) n ≡ Some true
    set_here = ap (λ xs. slice_get xs n) taken ∙ get_set_same (taken_in old) n true (slice_get_within (taken_in old) n false free)

    by : (k : ℕ) → (k ≡ n) ⊎ (k ≡ n → ⊥) → slice_get (taken_in old) k ≡ Some true → slice_get (taken_in new) k ≡ Some true
    by k (inl e) before = ap (slice_get (taken_in new)) e ∙ set_here
    by k (inr apart) before = ap (λ xs. slice_get xs k) taken ∙ get_set_other (taken_in old) n k true (λ e. apart (sym e)) ∙ before

-- ---- a number that is new

pub number_pushed : (body : ℕ) (old new : Numbering) (x : Point) (n : ℕ) → HasOwn body old → own_number x.kind ≡ None → n ≡ length (points_in old)
    → points_in new ≡ points_in old ++ x ∷ [] → taken_in new ≡ taken_in old → numbers_in new ≡ numbers_in old → TakesNumber old new x n
number_pushed body old new x n h other follows points taken numbers = record {
  kept = λ k y e. ap (λ xs. slice_get xs k) points ∙ front_get (points_in old) (x ∷ []) k (slice_get_within (points_in old) k y e) ∙ e;
  stands = ap (λ xs. slice_get xs n) points ∙ ap (slice_get (points_in old ++ x ∷ [])) follows ∙ get_last (points_in old) x;
  own = λ k e. absurd (none-some k (sym other ∙ e));
  fresh = λ k t e. let inside = t.inside in absurd (omega (arith, inside, e, follows));
  still = λ k t. let inside = t.inside in record { inside = omega (arith, inside, longer); own = λ lt. ap (λ xs. slice_get xs k) taken ∙ t.own lt };
  is_taken = record { inside = omega (arith, follows, longer); own = λ lt. absurd (omega (arith, lt, follows, at_least)) };
  every = λ k least lt. ⊎_elim (λ before. inl before) (λ past. inr (omega (arith, past, lt, longer, follows))) (cases_lt k (length (points_in old)));
  three = ap length taken ∙ h.three;
  numbers = numbers;
}
  where
    longer : length (points_in new) ≡ length (points_in old) + 1
    longer = ap length points ∙ length-append (points_in old) (x ∷ [])

    at_least : 2 < length (points_in old)
    at_least = slice_get_within (points_in old) 2 (record { row = body; kind = kind.Thrown }) h.thrown

-- ---- at the next place

-- a numbering is told by its lists
pub pointed_same : (body : ℕ) (old new : Numbering) (found : List (Option Point)) → points_in new ≡ points_in old → taken_in new ≡ taken_in old → numbers_in new ≡ numbers_in old → HaveNumbers body old found → HaveNumbers body new found
pointed_same body old new found points taken numbers h = record {
  own = record { entry = at 0 ∙ h.own.entry; exit = at 1 ∙ h.own.exit; thrown = at 2 ∙ h.own.thrown; three = ap length taken ∙ h.own.three };
  size = ap length numbers ∙ h.size;
  matched = λ i o n e f. subst (λ xs. Matches xs o n) (sym points) (h.matched i o n e (before i ∙ f));
  apart = λ i j k e f. h.apart i j k (before i ∙ e) (before j ∙ f);
  every = λ k least lt. let one = h.every k least (subst (λ xs. k < length xs) points lt) in (one.0, ap (λ xs. slice_get xs one.0) numbers ∙ one.1);
  taken = λ i k e. let t = h.taken i k (before i ∙ e) in record { inside = subst (λ xs. k < length xs) (sym points) t.inside; own = λ lt. ap (λ xs. slice_get xs k) taken ∙ t.own lt };
}
  where
    at : (k : ℕ) → slice_get (points_in new) k ≡ slice_get (points_in old) k
    at k = ap (λ xs. slice_get xs k) points

    before : (i : ℕ) → slice_get (numbers_in old) i ≡ slice_get (numbers_in new) i
    before i = ap (λ xs. slice_get xs i) (sym numbers)

pub begun_pointed : (body : ℕ) (numbering : Numbering) → points_in numbering ≡ record { row = body; kind = kind.Entry } ∷ record { row = body; kind = kind.Exit } ∷ record { row = body; kind = kind.Thrown } ∷ []
    → taken_in numbering ≡ false ∷ false ∷ false ∷ [] → numbers_in numbering ≡ [] → HaveNumbers body numbering []
begun_pointed body numbering points taken numbers = record {
  own = record { entry = ap (λ xs. slice_get xs 0) points; exit = ap (λ xs. slice_get xs 1) points; thrown = ap (λ xs. slice_get xs 2) points; three = ap length taken };
  size = ap length numbers;
  matched = λ i o n e f. absurd (none-some o e);
  apart = λ i j k e f. absurd (none i k e);
  every = λ k least lt. let size = ap length points in absurd (omega (arith, least, lt, size));
  taken = λ i k e. absurd (none i k e);
}
  where
    none : (i k : ℕ) → slice_get (numbers_in numbering) i ≡ Some (Some k) → ⊥
    none i k e = none-some (Some k) (ap (λ xs. slice_get xs i) (sym numbers) ∙ e)

abbrev of_body : ℕ → PointKind → Point
of_body body x = record { row = body; kind = x }

pub begun : (body : ℕ) (none one two three : Numbering) → points_in none ≡ [] → taken_in none ≡ [] → numbers_in none ≡ []
    → points_in one ≡ points_in none ++ of_body body kind.Entry ∷ [] → taken_in one ≡ taken_in none ++ false ∷ [] → numbers_in one ≡ numbers_in none
    → points_in two ≡ points_in one ++ of_body body kind.Exit ∷ [] → taken_in two ≡ taken_in one ++ false ∷ [] → numbers_in two ≡ numbers_in one
    → points_in three ≡ points_in two ++ of_body body kind.Thrown ∷ [] → taken_in three ≡ taken_in two ++ false ∷ [] → numbers_in three ≡ numbers_in two → HaveNumbers body three []
begun body none one two three a b c d e f g h i j k l = begun_pointed body three
    (j ∙ ap (λ xs. xs ++ of_body body kind.Thrown ∷ []) (g ∙ ap (λ xs. xs ++ of_body body kind.Exit ∷ []) (d ∙ ap (λ xs. xs ++ of_body body kind.Entry ∷ []) a)))
    (k ∙ ap (λ xs. xs ++ false ∷ []) (h ∙ ap (λ xs. xs ++ false ∷ []) (e ∙ ap (λ xs. xs ++ false ∷ []) b)))
    (l ∙ i ∙ f ∙ c)

pub free_found : (o : Option Bool) → is_free o ≡ true → o ≡ Some false
free_found (Some false) e = refl
free_found (Some true) e = absurd (false≢true e)
free_found None e = absurd (false≢true e)

module _ (body : ℕ) (old mid new : Numbering) (found : List (Option Point)) (h : HaveNumbers body old found) where
  -- the last place, or one before
  split : (o : Option ℕ) → numbers_in new ≡ numbers_in old ++ o ∷ [] → (i : ℕ) (n : Option ℕ) → slice_get (numbers_in new) i ≡ Some n → (slice_get (numbers_in old) i ≡ Some n) ⊎ ((i ≡ length found) × (o ≡ n))
  split o numbers i n e = ⊎_elim (λ a. inl a) (λ b. inr (b.0 ∙ h.size, b.1)) (get_pushed (numbers_in old) o n i (ap (λ xs. slice_get xs i) (sym numbers) ∙ e))

  found_before : (x o : Option Point) (i : ℕ) → slice_get (found ++ x ∷ []) i ≡ Some o → i < length found → slice_get found i ≡ Some o
  found_before x o i e lt = sym (front_get found (x ∷ []) i lt) ∙ e

  found_last : (x o : Option Point) (i : ℕ) → slice_get (found ++ x ∷ []) i ≡ Some o → i ≡ length found → x ≡ o
  found_last x o i e at = same_Some x o (sym (ap (slice_get (found ++ x ∷ [])) at ∙ get_last found x) ∙ e)

  inside : (i : ℕ) (n : Option ℕ) → slice_get (numbers_in old) i ≡ Some n → i < length found
  inside i n e = let lt = slice_get_within (numbers_in old) i n e in let size = h.size in omega (arith, lt, size)

  pub none_added : points_in new ≡ points_in old → taken_in new ≡ taken_in old → numbers_in new ≡ numbers_in old ++ None ∷ [] → HaveNumbers body new (found ++ None ∷ [])
  none_added points taken numbers = record {
    own = record { entry = at 0 ∙ h.own.entry; exit = at 1 ∙ h.own.exit; thrown = at 2 ∙ h.own.thrown; three = ap length taken ∙ h.own.three };
    size = ap length numbers ∙ length-append (numbers_in old) (None ∷ []) ∙ ap (λ k. k + 1) h.size ∙ sym (length-append found (None ∷ []));
    matched = λ i o n e f. ⊎_elim
        (λ a. subst (λ xs. Matches xs o n) (sym points) (h.matched i o n (found_before None o i e (inside i n a)) a))
        (λ b. subst (λ z. Matches (points_in new) o z) b.1 (subst (λ z. Matches (points_in new) z None) (found_last None o i e b.0) tt))
        (split None numbers i n f);
    apart = λ i j k e f. h.apart i j k (some i k e) (some j k f);
    every = λ k least lt. let one = h.every k least (subst (λ xs. k < length xs) points lt) in
        (one.0, ap (λ xs. slice_get xs one.0) numbers ∙ front_get (numbers_in old) (None ∷ []) one.0 (slice_get_within (numbers_in old) one.0 (Some k) one.1) ∙ one.1);
    taken = λ i k e. let t = h.taken i k (some i k e) in record { inside = subst (λ xs. k < length xs) (sym points) t.inside; own = λ lt. ap (λ xs. slice_get xs k) taken ∙ t.own lt };
  }
    where
      at : (k : ℕ) → slice_get (points_in new) k ≡ slice_get (points_in old) k
      at k = ap (λ xs. slice_get xs k) points

      some : (i k : ℕ) → slice_get (numbers_in new) i ≡ Some (Some k) → slice_get (numbers_in old) i ≡ Some (Some k)
      some i k e = ⊎_elim (λ a. a) (λ b. absurd (none-some k b.1)) (split None numbers i (Some k) e)

  pub point_added : (x : Point) (n : ℕ) → TakesNumber old mid x n → points_in new ≡ points_in mid → taken_in new ≡ taken_in mid → numbers_in new ≡ numbers_in mid ++ Some n ∷ [] → HaveNumbers body new (found ++ Some x ∷ [])
  point_added x n t points taken more = record {
    own = record { entry = keeps 0 (record { row = body; kind = kind.Entry }) h.own.entry; exit = keeps 1 (record { row = body; kind = kind.Exit }) h.own.exit; thrown = keeps 2 (record { row = body; kind = kind.Thrown }) h.own.thrown; three = ap length taken ∙ t.three };
    size = ap length numbers ∙ length-append (numbers_in old) (Some n ∷ []) ∙ ap (λ k. k + 1) h.size ∙ sym (length-append found (Some x ∷ []));
    matched = λ i o m e f. ⊎_elim
        (λ a. grown o m (h.matched i o m (found_before (Some x) o i e (inside i m a)) a))
        (λ b. subst (λ z. Matches (points_in new) o z) b.1 (subst (λ z. Matches (points_in new) z (Some n)) (found_last (Some x) o i e b.0) (at n ∙ t.stands, t.own)))
        (split (Some n) numbers i m f);
    apart = λ i j k e f. both i j k (split (Some n) numbers i (Some k) e) (split (Some n) numbers j (Some k) f);
    every = λ k least lt. ⊎_elim
        (λ before. let one = h.every k least before in
        (one.0, ap (λ xs. slice_get xs one.0) numbers ∙ front_get (numbers_in old) (Some n ∷ []) one.0 (slice_get_within (numbers_in old) one.0 (Some k) one.1) ∙ one.1))
        (λ e. (length (numbers_in old), ap (λ xs. slice_get xs (length (numbers_in old))) numbers ∙ get_last (numbers_in old) (Some n) ∙ ap (λ z. Some (Some z)) (sym e)))
        (t.every k least (subst (λ xs. k < length xs) points lt));
    taken = λ i k e. ⊎_elim (λ a. moved k (t.still k (h.taken i k a))) (λ b. moved k (subst (IsTaken mid) (same_Some n k b.1) t.is_taken)) (split (Some n) numbers i (Some k) e);
  }
    where
      at : (k : ℕ) → slice_get (points_in new) k ≡ slice_get (points_in mid) k
      at k = ap (λ xs. slice_get xs k) points

      numbers : numbers_in new ≡ numbers_in old ++ Some n ∷ []
      numbers = more ∙ ap (λ xs. xs ++ Some n ∷ []) t.numbers

      keeps : (k : ℕ) (y : Point) → slice_get (points_in old) k ≡ Some y → slice_get (points_in new) k ≡ Some y
      keeps k y e = at k ∙ t.kept k y e

      moved : (k : ℕ) → IsTaken mid k → IsTaken new k
      moved k s = record { inside = subst (λ xs. k < length xs) (sym points) s.inside; own = λ lt. ap (λ xs. slice_get xs k) taken ∙ s.own lt }

      grown : (o : Option Point) (m : Option ℕ) → Matches (points_in old) o m → Matches (points_in new) o m
      grown (Some y) (Some k) s = (keeps k y s.0, s.1)
      grown None None s = tt
      grown (Some y) None s = absurd s
      grown None (Some k) s = absurd s

      both : (i j k : ℕ) → (slice_get (numbers_in old) i ≡ Some (Some k)) ⊎ ((i ≡ length found) × (Some n ≡ Some k)) → (slice_get (numbers_in old) j ≡ Some (Some k)) ⊎ ((j ≡ length found) × (Some n ≡ Some k)) → i ≡ j
      both i j k (inl a) (inl b) = h.apart i j k a b
      both i j k (inl a) (inr b) = absurd (t.fresh k (h.taken i k a) (sym (same_Some n k b.1)))
      both i j k (inr a) (inl b) = absurd (t.fresh k (h.taken j k b) (sym (same_Some n k a.1)))
      both i j k (inr a) (inr b) = a.0 ∙ sym b.0

-- ---- how many are points

pub count_some : (found : List (Option Point)) (x : Point) → count_points (found ++ Some x ∷ []) ≡ count_points found + 1
count_some [] x = refl
count_some (None ∷ found) x = count_some found x
count_some (Some y ∷ found) x = let e = count_some found x in omega (arith, e)

pub count_none : (found : List (Option Point)) → count_points (found ++ None ∷ []) ≡ count_points found
count_none [] = refl
count_none (None ∷ found) = count_none found
count_none (Some y ∷ found) = ap suc (count_none found)
