-- The test of an order of types tells whether it is one.
use Rattle.std.proofs.Common.{◌≡◌, refl, sym, ◌∙◌, ap, ap₂, subst, ⊎_elim, arith, ℕ, zero, suc, ◌<◌, Bool, true, false, not, ◌&&◌, ◌||◌, List, [], ◌∷◌, length, nat_eq, Decides}
use Rattle.std.proofs.lemmas.Bool.{false≢true, or_left, or_right, or_cases}
use Rattle.std.proofs.lemmas.Bool.Decides.{Decides-eqb, Decides-at}
use Rattle.jr_tree.specs.Rows.{Rows}
use Rattle.jr_defs.specs.Declarations.{IsType, IsInterface, IsObject}
use Rattle.jr_plain.specs.Search.{has, all_below}
use Rattle.jr_plain.specs.Declarations.{is_type}
use Rattle.jr_plain.proofs.Bounds.{type_below}
use Rattle.jr_plain.proofs.Declared.{type_tells, object_tells, interface_tells}
use Rattle.jr_plain.proofs.Searches.{all}
use Rattle.jr_plain.proofs.Tests.{itself, both, implies, opposite, like}
use Rattle.jr_places.specs.declared.chains.Entry.{Entry}
use Rattle.jr_places.specs.declared.stamps.Stamps.{Stamps}
use Rattle.jr_places.specs.Stamps.{is_stamped, IsStamping, IsEmptied, AddsStamp}
use Rattle.jr_supers.specs.Direct.{supers_in}
use Rattle.jr_supers.specs.Order.{IsSuperIn, AreBehind}
use Rattle.jr_headed.specs.Cycles.{IsOrdered, is_passed, are_passed, is_top, is_behind, are_behind, Passes, IsPassing}

-- ---- one type

no_items : (all : List ℕ) → Decides (nat_eq (length all) 0) ((s : ℕ) → has all s ≡ true → ⊥)
no_items [] = (λ e s at. false≢true at, λ h. refl)
no_items (x ∷ xs) = (λ e. absurd (let z = (Decides-eqb (length (x ∷ xs)) 0).0 e in omega arith), λ h. absurd (h x (or_left (nat_eq x x) (has xs x) ((Decides-eqb x x).1 refl))))

module _ (p : Rows) (supers : List Entry) where
  abbrev IsTopAt : ℕ → Type 0
  IsTopAt c = IsObject p c → (IsInterface p c → ⊥) × ((s : ℕ) → IsSuperIn supers c s → ⊥)

  top_tells : (c : ℕ) → Decides (is_top p (supers_in supers c) c) (IsTopAt c)
  top_tells c = implies (object_tells p c) (like (both (no_items (supers_in supers c)) (opposite (interface_tells p c))) (λ h. (h.1, h.0)) (λ h. (h.1, h.0)))

  passed_tells : (passed : ℕ → Bool) (items : List ℕ) → Decides (are_passed p passed items) ((s : ℕ) → has items s ≡ true → IsType p s → passed s ≡ true)
  passed_tells passed [] = (λ e s at. absurd (false≢true at), λ h. refl)
  passed_tells passed (x ∷ xs) = like (both (implies (type_tells p x) (itself (passed x))) (passed_tells passed xs))
      (λ h s at type. ⊎_elim (λ e. let same = (Decides-eqb x s).0 e in subst (λ y. passed y ≡ true) same (h.0 (subst (IsType p) (sym same) type))) (λ k. h.1 s k type) (or_cases (nat_eq x s) (has xs s) at))
      (λ h. (h x (or_left (nat_eq x x) (has xs x) ((Decides-eqb x x).1 refl)), λ s at. h s (or_right (nat_eq x s) (has xs s) at)))

  abbrev IsBehindAt : List ℕ → ℕ → Type 0
  IsBehindAt done c = (IsType p c × IsTopAt c) × ((s : ℕ) → IsSuperIn supers c s → IsType p s → has done s ≡ true)

  behind_tells : (done : List ℕ) (c : ℕ) → Decides (is_behind p supers (has done) c) (IsBehindAt done c)
  behind_tells done c = both (both (type_tells p c) (top_tells c)) (passed_tells (has done) (supers_in supers c))

  -- ---- the order

  abbrev AreTops : List ℕ → Type 0
  AreTops order = (c : ℕ) → has order c ≡ true → IsTopAt c

  order_tells : (order done : List ℕ) → Decides (are_behind p supers done order) (AreBehind p supers done order × AreTops order)
  order_tells [] done = (λ e. (tt, λ c at. absurd (false≢true at)), λ h. refl)
  order_tells (x ∷ more) done = like (both (behind_tells done x) (order_tells more (x ∷ done)))
      (λ h. ((h.0.0.0, h.0.1, h.1.0), λ c at. ⊎_elim (λ e. subst IsTopAt ((Decides-eqb x c).0 e) h.0.0.1) (λ k. h.1.1 c k) (or_cases (nat_eq x c) (has more c) at)))
      (λ h. (((h.0.0, h.1 x (or_left (nat_eq x x) (has more x) ((Decides-eqb x x).1 refl))), h.0.1), (h.0.2, λ c at. h.1 c (or_right (nat_eq x c) (has more c) at))))

  ordered_tells : (order : List ℕ) → Decides (are_behind p supers [] order && all_below (length p) (is_passed p (has order))) (IsOrdered p supers order)
  ordered_tells order = like (both (order_tells order []) (all (is_passed p (has order)) (λ c. IsType p c → has order c ≡ true) (λ c. implies (type_tells p c) (itself (has order c))) (length p)))
      (λ h. record { order_is = record { behind = h.0.0; all = λ c type. h.1 c (type_below p c type) type }; top = λ c o. h.0.1 c (h.1 c (type_below p c o.type) o.type) o })
      (λ h. ((h.order_is.behind, λ c at o. h.top c o), λ c lt type. h.order_is.all c type))

  -- ---- sets

  same_tests : (n : ℕ) (f g : ℕ → Bool) → ((k : ℕ) → f k ≡ g k) → all_below n (is_passed p f) ≡ all_below n (is_passed p g)
  same_tests zero f g same = refl
  same_tests (suc n) f g same = ap₂ (λ a b. a && (not (is_type p n) || b)) (same_tests n f g same) (same n)

  same_passed : (f g : ℕ → Bool) (items : List ℕ) → ((k : ℕ) → f k ≡ g k) → are_passed p f items ≡ are_passed p g items
  same_passed f g [] same = refl
  same_passed f g (x ∷ xs) same = ap₂ (λ a b. (not (is_type p x) || a) && b) (same x) (same_passed f g xs same)

  same_behind : (f g : ℕ → Bool) (c : ℕ) → ((k : ℕ) → f k ≡ g k) → is_behind p supers f c ≡ is_behind p supers g c
  same_behind f g c same = ap (λ b. is_type p c && is_top p (supers_in supers c) c && b) (same_passed f g (supers_in supers c) same)

  -- ---- the loop

  pub passing_none : (order : List ℕ) (passed : Stamps) → IsEmptied passed (length p) → IsPassing p supers order passed order
  passing_none order passed h = record { done = []; counted = h.counted; in_set = h.none; all = λ n. refl; rest = refl }

  stamped_more : (old new : Stamps) (c n : ℕ) (is_new : Bool) → c < length p → AddsStamp old new (length p) c is_new → is_stamped new n ≡ (nat_eq c n || is_stamped old n)
  stamped_more old new c n is_new lt h = decides_same (is_stamped new n) (nat_eq c n || is_stamped old n)
      (λ e. ⊎_elim (λ o. or_right (nat_eq c n) (is_stamped old n) o) (λ same. or_left (nat_eq c n) (is_stamped old n) ((Decides-eqb c n).1 same)) (h.out n e))
      (λ e. ⊎_elim (λ same. subst (λ k. is_stamped new k ≡ true) ((Decides-eqb c n).0 same) (at is_new refl)) (λ o. h.kept n o) (or_cases (nat_eq c n) (is_stamped old n) e))
    where
      decides_same : (a b : Bool) → (a ≡ true → b ≡ true) → (b ≡ true → a ≡ true) → a ≡ b
      decides_same true b f g = sym (f refl)
      decides_same false true f g = g refl
      decides_same false false f g = refl

      at : (b : Bool) → is_new ≡ b → is_stamped new c ≡ true
      at true e = (h.new_one e).1
      at false e = h.kept c (h.was lt e)

  or_swap : (a b c : Bool) → ((a || b) || c) ≡ (b || (a || c))
  or_swap true true c = refl
  or_swap true false c = refl
  or_swap false b c = refl

  one_passes : (a b : Bool) → a ≡ true → (a && b) ≡ b
  one_passes true b e = refl
  one_passes false b e = absurd (false≢true e)

  pub passing_one : (order left more : List ℕ) (c : ℕ) (old new : Stamps) (is is_new : Bool) → left ≡ c ∷ more → IsPassing p supers order old left → is ≡ is_behind p supers (is_stamped old) c → is ≡ true
      → ((bound : ℕ) → IsStamping old bound → AddsStamp old new bound c is_new) → IsPassing p supers order new more
  passing_one order left more c old new is is_new left_is h told holds adds =
      let q : IsPassing p supers order old (c ∷ more) = subst (IsPassing p supers order old) left_is h in
      let here : is_behind p supers (has q.done) c ≡ true = sym (same_behind (is_stamped old) (has q.done) c q.in_set) ∙ sym told ∙ holds in
      let a = adds (length p) q.counted in let lt = type_below p c ((behind_tells q.done c).0 here).0.0 in record {
        done = c ∷ q.done;
        counted = a.counted;
        in_set = λ n. stamped_more old new c n is_new lt a ∙ ap (λ b. nat_eq c n || b) (q.in_set n);
        all = λ n. or_swap (nat_eq c n) (has q.done n) (has more n) ∙ q.all n;
        rest = sym (one_passes (is_behind p supers (has q.done) c) (are_behind p supers (c ∷ q.done) more) here) ∙ q.rest;
      }

  -- one that is not behind its supertypes ends it
  fails_first : (a b : Bool) → a ≡ false → (a && b) ≡ false
  fails_first true b e = absurd (false≢true (sym e))
  fails_first false b e = refl

  pub passing_fails : (order left more : List ℕ) (c : ℕ) (passed : Stamps) (is : Bool) → left ≡ c ∷ more → IsPassing p supers order passed left → is ≡ is_behind p supers (is_stamped passed) c → is ≡ false
      → Passes p supers order false passed
  passing_fails order left more c passed is left_is h told fails =
      let q : IsPassing p supers order passed (c ∷ more) = subst (IsPassing p supers order passed) left_is h in
      let here : is_behind p supers (has q.done) c ≡ false = sym (same_behind (is_stamped passed) (has q.done) c q.in_set) ∙ sym told ∙ fails in record {
        told = sym (fails_first (is_behind p supers (has q.done) c) (are_behind p supers (c ∷ q.done) more) here) ∙ q.rest;
        in_set = λ e. absurd (false≢true e);
      }

  pub passing_all : (order left : List ℕ) (passed : Stamps) → left ≡ [] → IsPassing p supers order passed left → Passes p supers order true passed
  passing_all order left passed left_is h = let q : IsPassing p supers order passed [] = subst (IsPassing p supers order passed) left_is h in record {
    told = q.rest;
    in_set = λ e n. q.in_set n ∙ sym (or_nothing (has q.done n)) ∙ q.all n;
  }
    where
      or_nothing : (b : Bool) → (b || false) ≡ b
      or_nothing true = refl
      or_nothing false = refl

  -- ---- all

  pub not_ordered : (order : List ℕ) (is : Bool) (passed : Stamps) → Passes p supers order is passed → is ≡ false → Decides false (IsOrdered p supers order)
  not_ordered order is passed h fails = Decides-at _ _ (sym (fails_first (are_behind p supers [] order) (all_below (length p) (is_passed p (has order))) (sym h.told ∙ fails))) (ordered_tells order)

  pub all_ordered : (order : List ℕ) (is have : Bool) (passed : Stamps) (end : ℕ) → end ≡ length p → Passes p supers order is passed → is ≡ true → have ≡ all_below end (is_passed p (is_stamped passed))
      → Decides have (IsOrdered p supers order)
  all_ordered order is have passed end all_rows h holds told = Decides-at _ _
      (told ∙ ap (λ n. all_below n (is_passed p (is_stamped passed))) all_rows ∙ same_tests (length p) (is_stamped passed) (has order) (h.in_set holds)
      ∙ sym (one_passes (are_behind p supers [] order) (all_below (length p) (is_passed p (has order))) (sym h.told ∙ holds)))
      (ordered_tells order)
