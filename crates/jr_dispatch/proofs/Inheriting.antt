-- What a class has of its supertypes, by types that are stamped from the last in the order back.
use Rattle.std.proofs.Common.{◌≡◌, ◌⊎◌, refl, sym, ◌∙◌, ap, subst, inl, inr, ⊎_elim, arith, ℕ, zero, suc, ◌<◌, Bool, true, false, not, ◌&&◌, Some, None, List, [], ◌∷◌, ◌++◌, length, take, drop, get_or, nat_eq, Decides}
use Rattle.std.proofs.lemmas.Bool.{false≢true}
use Rattle.std.proofs.lemmas.Bool.Decides.{Decides-eqb}
use Rattle.std.proofs.lemmas.Option.{none-some, same_Some}
use Rattle.jr_tree.specs.declared.label.Role.{Role}
use Rattle.jr_tree.specs.declared.label.Role.TheVariants as role
use Rattle.jr_tree.specs.Rows.{Rows, role_at}
use Rattle.jr_defs.specs.Referents.{Table}
use Rattle.jr_defs.specs.Declarations.{IsType, IsInterface, IsObject}
use Rattle.jr_defs.specs.Enclosing.{DeclaredIn}
use Rattle.jr_defs.specs.Supertypes.{Super}
use Rattle.jr_defs.specs.Members.{CanInherit, Passes, Replaces, IsLeft, MemberOf, SameMethods}
use Rattle.jr_plain.specs.Search.{has, Lists}
use Rattle.jr_plain.specs.Headed.{IsHeaded}
use Rattle.jr_plain.specs.Members.{passes}
use Rattle.jr_plain.specs.Modifiers.{is_private}
use Rattle.jr_plain.specs.Overriding.{is_reachable}
use Rattle.jr_plain.proofs.Tests.{both, like}
use Rattle.jr_plain.proofs.Searches.{among_append}
use Rattle.jr_plain.proofs.Same.{role_tells}
use Rattle.jr_plain.proofs.Bounds.{type_below, member_below}
use Rattle.jr_plain.specs.Enclosing.{declaring_type}
use Rattle.jr_plain.proofs.Enclosed.{declared_in_tells, declaring_finds}
use Rattle.jr_plain.proofs.Membership.{passes_tells, can_inherit_tells}
use Rattle.jr_plain.proofs.Typed.{signature_tells}
use Rattle.jr_places.specs.declared.stamps.Stamps.{Stamps}
use Rattle.jr_places.specs.Stamps.{is_stamped, IsStamping, IsEmptied, AddsStamp}
use Rattle.jr_supers.specs.Direct.{HasSupers}
use Rattle.jr_supers.specs.Order.{IsSuperIn, AreBehind, IsOrderOf}
use Rattle.jr_places.specs.declared.chains.Entry.{Entry}
use Rattle.jr_places.specs.Chains.{rows_under}
use Rattle.jr_members.specs.Held.{Holds}
use Rattle.jr_members.specs.Keys.{falling, is_declared_like}
use Rattle.jr_members.proofs.Declaring.{falling_lists}
use Rattle.jr_members.proofs.Heritage.{held_member, member_held, held_source}
use Rattle.jr_dispatch.specs.Dispatching.{DeclaresLike, IsMarking, IsMarked, IsMarkedIf, IsVisited, IsSeeking}
use Rattle.jr_dispatch.proofs.Leading.{head_in, rest_in, in_cons}

-- ---- lists

-- a list, up to a place and from it on
pub cut_at : (xs : List ℕ) (n d : ℕ) → n < length xs → (xs ≡ take n xs ++ get_or xs n d ∷ drop (suc n) xs) × (take (suc n) xs ≡ take n xs ++ get_or xs n d ∷ [])
cut_at [] n d lt = absurd (omega arith)
cut_at (x ∷ xs) zero d lt = (refl, refl)
cut_at (x ∷ xs) (suc n) d lt = let more = cut_at xs n d (omega arith) in (ap (λ ys. x ∷ ys) more.0, ap (λ ys. x ∷ ys) more.1)

some_item : (all : List ℕ) (P : ℕ → Type 0) (empty : Bool) → Lists all P → empty ≡ nat_eq (length all) 0 → Decides (not empty) ((x : ℕ) × P x)
some_item [] P true lists e = (λ h. absurd (false≢true h), λ h. absurd (false≢true ((lists h.0).1 h.1)))
some_item [] P false lists e = absurd (false≢true e)
some_item (x ∷ xs) P true lists e = let same = (Decides-eqb (length (x ∷ xs)) 0).0 (sym e) in absurd (omega arith)
some_item (x ∷ xs) P false lists e = (λ h. (x, (lists x).0 (head_in x xs)), λ h. refl)

-- ---- tests

module _ (p : Rows) (c d : ℕ) where
  pub declarer_some : (e : ℕ) → declaring_type p d ≡ Some e → Decides (nat_eq e c) (DeclaredIn p c d)
  declarer_some e found = like (Decides-eqb e c) (λ same. (declaring_finds p d c).0 (found ∙ ap Some same)) (λ h. same_Some e c (sym found ∙ (declaring_finds p d c).1 h))

  pub declarer_none : declaring_type p d ≡ None → Decides false (DeclaredIn p c d)
  declarer_none none = (λ h. absurd (false≢true h), λ h. absurd (none-some c (sym none ∙ (declaring_finds p d c).1 h)))

  pub inherits_not : is_private p d ≡ true → Decides false (CanInherit p c d)
  inherits_not e = subst (λ b. Decides b (CanInherit p c d)) (ap (λ b. not b && is_reachable p c d) e) (can_inherit_tells p c d)

  pub inherits_by : (b : Bool) → is_private p d ≡ false → b ≡ is_reachable p c d → Decides b (CanInherit p c d)
  inherits_by b e is = subst (λ b. Decides b (CanInherit p c d)) (ap (λ b. not b && is_reachable p c d) e ∙ sym is) (can_inherit_tells p c d)

module _ (p : Rows) where
  pub marked_no : (s d : ℕ) (old : Stamps) (bound : ℕ) → IsStamping old bound → passes p s d ≡ false → IsMarkedIf p s d old old bound
  marked_no s d old bound counted e = record { counted = counted; out = λ x h. inl h; kept = λ x h. h; told = λ a. absurd (false≢true (sym e ∙ (passes_tells p s d).1 a)) }

  pub marked_yes : (s d : ℕ) (old new : Stamps) (bound : ℕ) (is_new : Bool) → passes p s d ≡ true → AddsStamp old new bound s is_new → IsMarkedIf p s d old new bound
  marked_yes s d old new bound is_new test h = record {
    counted = h.counted;
    out = λ x is. ⊎_elim (λ a. inl a) (λ a. inr (a, (passes_tells p s d).0 test)) (h.out x is);
    kept = h.kept;
    told = λ a lt. by is_new refl lt;
  }
    where
      by : (b : Bool) → is_new ≡ b → s < bound → is_stamped new s ≡ true
      by true e lt = (h.new_one e).1
      by false e lt = h.kept s (h.was lt e)

module _ (p : Rows) (t : Table) where
  -- ---- of one signature

  pub like_listed : (headed : IsHeaded p) (c m : ℕ) → role_at p m ≡ role.Method → Lists (falling (length p) (is_declared_like p t c m)) (λ e. DeclaredIn p c e × SameMethods p t e m)
  like_listed headed c m method = falling_lists (is_declared_like p t c m) (λ e. DeclaredIn p c e × SameMethods p t e m) (length p)
      (λ e. like (both (role_tells (role_at p e) role.Method) (both (declared_in_tells p c e) (signature_tells p t e m headed.tree)))
      (λ h. (h.1.0, record { first = h.0; second = method; signature = h.1.1 })) (λ k. (k.1.first, (k.0, k.1.signature))))
      (λ e k. member_below p e k.0.member)

  pub declares_tells : (headed : IsHeaded p) (c m : ℕ) (rows : List ℕ) (empty : Bool) → role_at p m ≡ role.Method → rows ≡ falling (length p) (is_declared_like p t c m) → empty ≡ nat_eq (length rows) 0
      → Decides (not empty) (DeclaresLike p t c m)
  declares_tells headed c m rows empty method is e =
      like (some_item rows (λ e. DeclaredIn p c e × SameMethods p t e m) empty (subst (λ xs. Lists xs (λ e. DeclaredIn p c e × SameMethods p t e m)) (sym is) (like_listed headed c m method)) e)
      (λ h. record { own = h.0; declared = h.1.0; same = h.1.1 }) (λ k. (k.own, (k.declared, k.same)))

  module _ (c d : ℕ) (method : role_at p d ≡ role.Method) where
    no_role : {r : Role} → r ≡ role.Method → (r ≡ role.Field) ⊎ (r ≡ role.Type) → ⊥
    no_role e (inl f) = cc
    no_role e (inr f) = cc

    left_by : (DeclaresLike p t c d → ⊥) → IsLeft p t c d
    left_by none e declared (Replaces.field h) = no_role method (inl h.second)
    left_by none e declared (Replaces.type h) = no_role method (inr h.second)
    left_by none e declared (Replaces.method h) = none (record { own = e; declared = declared; same = h })

    -- ---- one type

    module _ (old : Stamps) (bound : ℕ) (counted : IsStamping old bound) where
      pub visited_apart : is_stamped old c ≡ false → IsVisited p t c d old old bound false
      visited_apart e = record {
        counted = counted;
        out = λ s h. inl h;
        kept = λ s h. h;
        found = λ h. absurd (false≢true h);
        passed = λ h is. absurd (false≢true (sym e ∙ is));
      }

      pub visited_there : is_stamped old c ≡ true → DeclaredIn p c d → IsVisited p t c d old old bound true
      visited_there e declared = record {
        counted = counted;
        out = λ s h. inl h;
        kept = λ s h. h;
        found = λ h. (e, declared);
        passed = λ h. absurd (false≢true (sym h));
      }

      stays : (Holds p t c d → ⊥) → IsVisited p t c d old old bound false
      stays none = record {
        counted = counted;
        out = λ s h. inl h;
        kept = λ s h. h;
        found = λ h. absurd (false≢true h);
        passed = λ h is holds. absurd (none holds);
      }

      pub visited_closed : (DeclaredIn p c d → ⊥) → (CanInherit p c d → ⊥) → IsVisited p t c d old old bound false
      visited_closed apart closed = stays none
        where
          none : Holds p t c d → ⊥
          none (Holds.declared h) = apart h
          none (Holds.inherited up more a b left) = closed b

      pub visited_replaced : (DeclaredIn p c d → ⊥) → DeclaresLike p t c d → IsVisited p t c d old old bound false
      visited_replaced apart own = stays none
        where
          none : Holds p t c d → ⊥
          none (Holds.declared h) = apart h
          none (Holds.inherited up more a b left) = left own.own own.declared (Replaces.method own.same)

    pub visited_marked : (headed : IsHeaded p) (old new : Stamps) → is_stamped old c ≡ true → (DeclaredIn p c d → ⊥) → CanInherit p c d → (DeclaresLike p t c d → ⊥) → IsMarked p t c d old new (length p)
        → IsVisited p t c d old new (length p) false
    visited_marked headed old new e apart can none h = record {
      counted = h.counted;
      out = λ s is. ⊎_elim (λ a. inl a) (λ a. inr (e, λ holds. Holds.inherited a.0 holds a.1 can (left_by none))) (h.out s is);
      kept = h.kept;
      found = λ k. absurd (false≢true k);
      passed = λ k is holds. passed holds;
    }
      where
        passed : Holds p t c d → (s : ℕ) × Super p t c s × (is_stamped new s ≡ true) × Holds p t s d
        passed (Holds.declared k) = absurd (apart k)
        passed (Holds.inherited {s = s} up more a b left) = (s, up, h.told s up a (type_below p s (held_source p t headed s d more)), more)

  -- ---- supertypes of one type

  pub supers_listed : (supers all : List Entry) (rows : List ℕ) (c : ℕ) → HasSupers p t supers → all ≡ supers → rows ≡ rows_under all c 0 (length all) → Lists rows (Super p t c)
  supers_listed supers all rows c h same is = subst (λ xs. Lists xs (Super p t c)) (sym (is ∙ ap (λ l. rows_under l c 0 (length l)) same)) (h.each c)

  module _ (c d : ℕ) (old : Stamps) (bound : ℕ) where
    pub marking_start : (rows : List ℕ) → IsStamping old bound → Lists rows (Super p t c) → IsMarking p t c d old old bound rows
    marking_start rows counted lists = record {
      counted = counted;
      out = λ s h. inl h;
      kept = λ s h. h;
      told = λ s up a lt. inr ((lists s).1 up);
      supers = λ s at. (lists s).0 at;
    }

    pub marking_next : (now new : Stamps) (rows rest : List ℕ) (s : ℕ) → rows ≡ s ∷ rest → IsMarking p t c d old now bound rows → IsMarkedIf p s d now new bound → IsMarking p t c d old new bound rest
    marking_next now new rows rest s is h k = record {
      counted = k.counted;
      out = λ x at. ⊎_elim (λ a. h.out x a) (λ a. inr (subst (λ y. Super p t c y × Passes p y d) a.0 (here, a.1))) (k.out x at);
      kept = λ x at. k.kept x (h.kept x at);
      told = λ x up a lt. ⊎_elim (λ at. inl (k.kept x at))
          (λ at. ⊎_elim (λ same. inl (subst (λ y. is_stamped new y ≡ true) same (k.told (subst (λ y. Passes p y d) (sym same) a) (subst (λ y. y < bound) (sym same) lt)))) (λ b. inr b) (in_cons s x rest (subst (λ xs. has xs x ≡ true) is at)))
          (h.told x up a lt);
      supers = λ x at. h.supers x (subst (λ xs. has xs x ≡ true) (sym is) (rest_in s x rest at));
    }
      where
        here : Super p t c s
        here = h.supers s (subst (λ xs. has xs s ≡ true) (sym is) (head_in s rest))

    pub marking_end : (now : Stamps) (rest : List ℕ) → rest ≡ [] → IsMarking p t c d old now bound rest → IsMarked p t c d old now bound
    marking_end now rest none h = record {
      counted = h.counted;
      out = h.out;
      kept = h.kept;
      told = λ s up a lt. ⊎_elim (λ at. at) (λ at. absurd (false≢true (subst (λ xs. has xs s ≡ true) none at))) (h.told s up a lt);
    }

  -- ---- all types

  behind_at : (supers : List Entry) (c s : ℕ) (done front back : List ℕ) → AreBehind p supers done (front ++ c ∷ back) → IsSuperIn supers c s → IsType p s → (has done s ≡ true) ⊎ (has front s ≡ true)
  behind_at supers c s done [] back h up type = inl (h.1 s up type)
  behind_at supers c s done (x ∷ front) back h up type = ⊎_elim (λ a. ⊎_elim (λ same. inr (subst (λ y. has (x ∷ front) y ≡ true) same (head_in x front))) (λ b. inl b) (in_cons x s done a)) (λ a. inr (rest_in x s front a))
      (behind_at supers c s (x ∷ done) front back h.2 up type)

  module _ (headed : IsHeaded p) (c d : ℕ) where
    pub seeking_start : (supers : List Entry) (order all : List ℕ) (empty met : Stamps) (is_new : Bool) → IsType p c → IsOrderOf p supers order → all ≡ order → IsEmptied empty (length p)
        → AddsStamp empty met (length p) c is_new → IsSeeking p t c d met all
    seeking_start supers order all empty met is_new type ordered same none h = record {
      counted = h.counted;
      sound = λ x at. ⊎_elim (λ a. absurd (false≢true (sym (none.none x) ∙ a))) (λ e. subst (λ y. Holds p t y d → Holds p t c d) e (λ k. k)) (h.out x at);
      whole = λ k. (c, stamped is_new refl, subst (λ xs. has xs c ≡ true) (sym same) (ordered.all c type), k);
    }
      where
        stamped : (b : Bool) → is_new ≡ b → is_stamped met c ≡ true
        stamped true e = (h.new_one e).1
        stamped false e = h.kept c (h.was (type_below p c type) e)

    pub seeking_next : (supers : List Entry) (order : List ℕ) (n e : ℕ) (old new : Stamps) (x : ℕ) → HasSupers p t supers → IsOrderOf p supers order → n < length order → x ≡ get_or order n e
        → IsSeeking p t c d old (take (suc n) order) → IsVisited p t x d old new (length p) false → IsSeeking p t c d new (take n order)
    seeking_next supers order n e old new x listed ordered lt is h v = record { counted = v.counted; sound = sound; whole = λ k. whole (h.whole k) }
      where
        cut : (order ≡ take n order ++ x ∷ drop (suc n) order) × (take (suc n) order ≡ take n order ++ x ∷ [])
        cut = subst (λ y. (order ≡ take n order ++ y ∷ drop (suc n) order) × (take (suc n) order ≡ take n order ++ y ∷ [])) (sym is) (cut_at order n e lt)

        sound : (y : ℕ) → is_stamped new y ≡ true → Holds p t y d → Holds p t c d
        sound y at k = ⊎_elim (λ a. h.sound y a k) (λ a. h.sound x a.0 (a.1 k)) (v.out y at)

        front : (s : ℕ) → Super p t x s → IsType p s → has (take n order) s ≡ true
        front s up type = ⊎_elim (λ a. absurd (false≢true a)) (λ a. a)
            (behind_at supers x s [] (take n order) (drop (suc n) order) (subst (λ xs. AreBehind p supers [] xs) cut.0 ordered.behind) ((listed.each x s).1 up) type)

        here : (y : ℕ) → x ≡ y → is_stamped old y ≡ true → Holds p t y d → (z : ℕ) × (is_stamped new z ≡ true) × (has (take n order) z ≡ true) × Holds p t z d
        here y same at k = let more = v.passed refl (subst (λ z. is_stamped old z ≡ true) (sym same) at) (subst (λ z. Holds p t z d) (sym same) k) in
            (more.0, more.2, front more.0 more.1 (held_source p t headed more.0 d more.3), more.3)

        whole : (y : ℕ) × (is_stamped old y ≡ true) × (has (take (suc n) order) y ≡ true) × Holds p t y d → (y : ℕ) × (is_stamped new y ≡ true) × (has (take n order) y ≡ true) × Holds p t y d
        whole k = ⊎_elim (λ a. (k.0, v.kept k.0 k.1, a, k.3)) (λ a. ⊎_elim (λ same. here k.0 same k.1 k.3) (λ b. absurd (false≢true b)) (in_cons x k.0 [] a))
            ((among_append nat_eq Decides-eqb (take n order) (x ∷ []) k.0).0 (subst (λ xs. has xs k.0 ≡ true) cut.1 k.2))

    pub seeking_found : (old new : Stamps) (x : ℕ) (rest : List ℕ) → IsSeeking p t c d old rest → IsVisited p t x d old new (length p) true → Decides true (MemberOf p t c d)
    seeking_found old new x rest h v = let k = v.found refl in (λ e. held_member p t c d (h.sound x k.0 (Holds.declared k.1)), λ m. refl)

    pub seeking_end : (met : Stamps) (rest : List ℕ) → rest ≡ [] → (IsInterface p c → ⊥) → ((o : ℕ) → IsObject p o → IsInterface p o → ⊥) → IsSeeking p t c d met rest → Decides false (MemberOf p t c d)
    seeking_end met rest none class apart h = (
      λ e. absurd (false≢true e),
      λ m. ⊎_elim (λ k. let at = h.whole k in absurd (false≢true (subst (λ xs. has xs at.0 ≡ true) none at.2))) (λ k. absurd (class k.interface)) (member_held p t apart c d m),
    )
