-- What is told of the classes that are thrown at a row.
use Rattle.std.proofs.Common.{◌≡◌, ◌⊎◌, refl, sym, ◌∙◌, ap, subst, inl, inr, ⊎_elim, arith, add-one, ℕ, ◌+◌, ◌<◌, ◌≤◌, Bool, true, false, cond, not, ◌||◌, List, [], ◌∷◌, ◌++◌, take, length, slice_index_or, Option, Some, None, nat_eq, Decides}
use Rattle.std.specs.List.{list_any}
use Rattle.std.proofs.Math.Seq.{take-suc}
use Rattle.std.proofs.lemmas.Bool.{false≢true, cases_eq, or_left}
use Rattle.std.proofs.lemmas.Bool.Decides.{Decides-eqb}
use Rattle.std.proofs.lemmas.List.{take_all}
use Rattle.std.proofs.lemmas.Option.{none-some, same_Some}
use Rattle.jr_tree.specs.declared.label.Label.{Label}
use Rattle.jr_tree.specs.declared.label.Label.TheVariants as is
use Rattle.jr_tree.specs.Rows.{Rows, label}
use Rattle.jr_tree.specs.Local.{IsLocal}
use Rattle.jr_defs.specs.MemberRules.{IsChecked}
use Rattle.jr_defs.specs.Referents.{Table}
use Rattle.jr_defs.specs.Supertypes.{AtOrAbove}
use Rattle.jr_plain.specs.Headed.{IsHeaded}
use Rattle.jr_plain.specs.Overloads.{Types}
use Rattle.jr_plain.specs.Search.{Finds, has}
use Rattle.jr_plain.proofs.Bounds.{bounded}
use Rattle.jr_plain.proofs.Searches.{some_of, among_append}
use Rattle.jr_plain.proofs.Tests.{itself, never, either, opposite, like}
use Rattle.jr_places.specs.declared.chains.Entry.{Entry}
use Rattle.jr_rules.specs.Typed.{Typed}
use Rattle.jr_supers.specs.Pairs.{has_pair, with_pair}
use Rattle.jr_supers.specs.Supers.{ListsOnce}
use Rattle.jr_supers.proofs.Subtyped.{one_test}
use Rattle.jr_flow_faults.specs.declared.catches.Arrived as arriving
use Rattle.jr_flow_faults.specs.Exceptions.{IsTry, IsCode, FinallyCompletes, Catches, IsCatchOf, IsInvocation, ThrownAt, BodyThrows, LetsOut, IsUncaught}
use Rattle.jr_flow_faults.specs.Outwards.{Meets, GoesFrom, IsLeft, IsFollowing, AreAbove}
use Rattle.jr_flow_faults.specs.ExceptionTests.{AreCatchesTo, lets_out, thrown_at, is_uncaught}
use Rattle.jr_flow_faults.specs.Reading.{IsOnward, ComesUncaught, FollowsClass, FollowsUncaught, NotesClass, NotesClasses, RowThrows, AreArrived, NotesRow}
use Rattle.jr_flow_faults.proofs.Covered.{one_item, item_one}
use Rattle.jr_flow_faults.proofs.Followed.{following_caught, following_lost, following_on, following_pairs, following_none, following_end, none_ahead}
use Rattle.jr_flow_faults.proofs.Uncaught.{lets_out_tells, thrown_list, uncaught_tells}

no_invocation : (l : Label) → IsInvocation l → IsCode l → ⊥
no_invocation (is.Call r) h k = k
no_invocation is.New h k = k
no_invocation (is.ConstructorCall w) h k = k
no_invocation is.ImplicitCall h k = k
no_invocation _ h k = absurd h

module _ (p : Rows) (t : Table) (completes : ℕ → Bool) where
  -- ---- one `try` on the way

  module _ (headed : IsHeaded p) (local : IsLocal p) (pairs : List Entry) (are : AreCatchesTo p t (length p) pairs) (c g : ℕ) (uppers : List ℕ) (lists : ListsOnce uppers (AtOrAbove p t c)) where
    caught_tells : Decides (list_any (λ high. has_pair pairs g high) uppers) (Catches p t g c)
    caught_tells = like (some_of (λ high. has_pair pairs g high) (λ d. (k : ℕ) × (k < length p) × IsCatchOf p t g k d) (λ d. are g d) uppers lists.has)
        (λ h. record { row = h.2.0; class = h.0; catch = h.2.2; above = h.1 })
        (λ h. (h.class, h.above, (h.row, bounded (λ l. l ≡ is.Catch) (λ e. absurd (cc)) p h.row h.catch.catch, h.catch)))

    pub onward_caught : (b : Bool) → b ≡ list_any (λ high. has_pair pairs g high) uppers → b ≡ true → IsOnward p t completes c g None
    onward_caught b is e = IsOnward.caught (caught_tells.0 (sym is ∙ e))

    pub onward_next : (b lost : Bool) (known : Option ℕ) → b ≡ list_any (λ high. has_pair pairs g high) uppers → b ≡ false → Decides (not lost) (FinallyCompletes p completes g) → Finds known (Meets p completes g)
        → IsOnward p t completes c g (cond lost None known)
    onward_next b true known is e d finds = IsOnward.lost (λ h. false≢true (sym e ∙ is ∙ caught_tells.1 h)) (λ h. false≢true (d.1 h))
    onward_next b false known is e d finds = IsOnward.on (λ h. false≢true (sym e ∙ is ∙ caught_tells.1 h)) (d.0 refl) finds

  module _ (local : IsLocal p) (c n : ℕ) (old : List Entry) where
    abbrev Following : List Entry → Option ℕ → ℕ → Type 0
    Following now next turn = IsFollowing p t completes c n old now next turn

    none_later : (now : List Entry) (turn later : ℕ) → Following now None turn → Following now None later
    none_later now turn later h = record { ahead = h.ahead; back = h.back; pairs = h.pairs; kept = h.kept; near = λ g e. absurd (none-some g e) }

    pub following_step : (g turn : ℕ) (now new : List Entry) (next : Option ℕ) → Following now (Some g) turn → IsTry (label p g) → IsOnward p t completes c g next → new ≡ with_pair now g c → Following new next (turn + 1)
    following_step g turn now new next before guarded onward is = subst (λ x. Following x next (turn + 1)) (sym is) (by next onward)
      where
        by : (next : Option ℕ) → IsOnward p t completes c g next → Following (with_pair now g c) next (turn + 1)
        by None (IsOnward.caught h) = none_later (with_pair now g c) turn (turn + 1) (following_caught p local t completes c n old g turn now guarded before h)
        by None (IsOnward.lost h k) = none_later (with_pair now g c) turn (turn + 1) (following_lost p local t completes c n old g turn now guarded before h k)
        by next (IsOnward.on h k finds) = subst (λ m. Following (with_pair now g c) next m) (sym (add-one turn)) (following_on p local t completes c n old g turn now guarded before h next k finds)

    no_more : (now : List Entry) (next : Option ℕ) (turn : ℕ) → Following now next turn → length p ≤ turn → (m : ℕ) → GoesFrom p t completes c next m → ⊥
    no_more now None turn h le m a = a
    no_more now (Some g) turn h le m a = let room = h.near g refl in omega arith

  module _ (local : IsLocal p) (c n : ℕ) (old now : arriving.Arrived) (none : IsCode (label p n) → ⊥) (above : AreAbove p t old.thrown old.above → AreAbove p t now.thrown now.above) where
    abbrev Follows : Option ℕ → Type 0
    Follows member = FollowsClass p t completes n c old now member

    pub follows_none : (next : Option ℕ) (turn : ℕ) → IsFollowing p t completes c n old.thrown now.thrown next turn → next ≡ None → Follows None
    follows_none next turn h e = let past = λ (m : ℕ) (a : GoesFrom p t completes c next m). subst (λ o. GoesFrom p t completes c o m) e a in record {
      reached = following_none p local t completes c n old.thrown now.thrown next turn none h past;
      thrown = following_pairs p local t completes c n old.thrown now.thrown next turn none h (λ o a guarded. past o a);
      above = above;
    }

    pub follows_past : (next : Option ℕ) (turn : ℕ) → IsFollowing p t completes c n old.thrown now.thrown next turn → length p ≤ turn → Follows None
    follows_past next turn h le = let past = no_more local c n old.thrown now.thrown next turn h le in record {
      reached = following_none p local t completes c n old.thrown now.thrown next turn none h past;
      thrown = following_pairs p local t completes c n old.thrown now.thrown next turn none h (λ o a guarded. past o a);
      above = above;
    }

    pub follows_end : (g turn : ℕ) → IsFollowing p t completes c n old.thrown now.thrown (Some g) turn → (IsTry (label p g) → ⊥) → Follows (Some g)
    follows_end g turn h other = record {
      reached = following_end p local t completes c n old.thrown now.thrown (Some g) turn none h g refl other;
      thrown = following_pairs p local t completes c n old.thrown now.thrown (Some g) turn none h (none_ahead p local t completes c n old.thrown now.thrown (Some g) turn none h g refl other);
      above = above;
    }

  -- ---- one class

  module _ (n c : ℕ) (old new : arriving.Arrived) where
    pub uncaught_none : FollowsClass p t completes n c old new None → FollowsUncaught p t completes n c old new false
    uncaught_none h = record { uncaught = like never (λ k. absurd k) (λ k. none-some k.0 ((h.reached k.0).1 k.1)); thrown = h.thrown; above = h.above }

    pub uncaught_some : IsHeaded p → IsLocal p → (m : ℕ) (lets : Bool) → lets ≡ lets_out p t c m → FollowsClass p t completes n c old new (Some m) → FollowsUncaught p t completes n c old new (not lets)
    uncaught_some headed local m lets is h = record {
      uncaught = like (opposite (subst (λ b. Decides b (LetsOut p t c m)) (sym is) (lets_out_tells p t headed local c m)))
          (λ k. (m, (h.reached m).0 refl, k)) (λ k. subst (λ x. LetsOut p t c x → ⊥) (sym (same_Some m k.0 ((h.reached k.0).1 k.1))) k.2);
      thrown = h.thrown;
      above = h.above;
    }

    pub notes_checked : IsChecked p t c → (b : Bool) → FollowsUncaught p t completes n c old new b → NotesClass p t completes n c old new b
    notes_checked checked b h = record {
      uncaught = like h.uncaught (λ k. record { checked = checked; member = k.0; reached = k.1; kept = k.2 }) (λ k. (k.member, k.reached, k.kept));
      thrown = λ o d. like (h.thrown o d) (⊎_elim (λ k. inl k) (λ k. inr (k.0, checked, k.1))) (⊎_elim (λ k. inl k) (λ k. inr (k.0, k.2)));
      above = h.above;
    }

    pub notes_unchecked : (IsChecked p t c → ⊥) → new ≡ old → NotesClass p t completes n c old new false
    notes_unchecked none same = subst (λ x. NotesClass p t completes n c old x false) (sym same) (record {
      uncaught = like never (λ k. absurd k) (λ k. none k.checked);
      thrown = λ o d. like (itself (has_pair old.thrown o d)) (λ k. inl k) (⊎_elim (λ k. k) (λ k. absurd (none k.1)));
      above = λ h. h;
    })

  -- ---- the classes of a row

  pub classes_start : (n : ℕ) (classes : List ℕ) (old new : arriving.Arrived) → classes ≡ [] → new ≡ old → NotesClasses p t completes n classes old new false
  classes_start n classes old new empty same = subst (λ xs. NotesClasses p t completes n xs old new false) (sym empty) (subst (λ x. NotesClasses p t completes n [] old x false) (sym same) (record {
    uncaught = like never (λ k. absurd k) (λ k. false≢true k.1);
    thrown = λ o d. like (itself (has_pair old.thrown o d)) (λ k. inl k) (⊎_elim (λ k. k) (λ k. absurd (false≢true k.0)));
    above = λ h. h;
  }))

  module _ (n : ℕ) (before : List ℕ) (c : ℕ) (old mid new : arriving.Arrived) (a b : Bool) (first : NotesClasses p t completes n before old mid a) (second : NotesClass p t completes n c mid new b) where
    in_more : (d : ℕ) → Decides (has (before ++ c ∷ []) d) ((has before d ≡ true) ⊎ (c ≡ d))
    in_more d = like (among_append nat_eq Decides-eqb before (c ∷ []) d) (⊎_elim (λ h. inl h) (λ h. inr (one_item c d h))) (⊎_elim (λ h. inl h) (λ h. inr (subst (λ x. has (c ∷ []) x ≡ true) h (item_one c))))

    thrown_more : (o d : ℕ) → Decides (has_pair new.thrown o d) ((has_pair old.thrown o d ≡ true) ⊎ ((has (before ++ c ∷ []) d ≡ true) × IsChecked p t d × IsLeft p t completes d n o))
    thrown_more o d = like (second.thrown o d)
        (⊎_elim (λ h. ⊎_elim (λ k. inl k) (λ k. inr ((in_more d).1 (inl k.0), k.1, k.2)) ((first.thrown o d).0 h))
        (λ h. inr ((in_more d).1 (inr h.0), subst (IsChecked p t) h.0 h.1, subst (λ x. IsLeft p t completes x n o) h.0 h.2)))
        (⊎_elim (λ h. inl ((first.thrown o d).1 (inl h)))
        (λ h. ⊎_elim (λ k. inl ((first.thrown o d).1 (inr (k, h.1, h.2)))) (λ k. inr (k, subst (IsChecked p t) (sym k) h.1, subst (λ x. IsLeft p t completes x n o) (sym k) h.2)) ((in_more d).0 h.0)))

    pub classes_more : NotesClasses p t completes n (before ++ c ∷ []) old new (a || b)
    classes_more = record {
      uncaught = like (either first.uncaught second.uncaught)
          (⊎_elim (λ h. (h.0, (in_more h.0).1 (inl h.1), h.2)) (λ h. (c, (in_more c).1 (inr refl), h)))
          (λ h. ⊎_elim (λ k. inl (h.0, k, h.2)) (λ k. inr (subst (ComesUncaught p t completes n) (sym k) h.2)) ((in_more h.0).0 h.1));
      thrown = thrown_more;
      above = λ h. second.above (first.above h);
    }

  -- one item more of the list
  pub classes_next : (n : ℕ) (classes : List ℕ) (k c d : ℕ) (old mid new : arriving.Arrived) (a b : Bool) → k < length classes → c ≡ slice_index_or classes k d → NotesClasses p t completes n (take k classes) old mid a
      → NotesClass p t completes n c mid new b → NotesClasses p t completes n (take (k + 1) classes) old new (a || b)
  classes_next n classes k c d old mid new a b lt is first second = subst (λ xs. NotesClasses p t completes n xs old new (a || b))
      (ap (λ x. take k classes ++ x ∷ []) is ∙ sym (take-suc classes k d lt) ∙ ap (λ m. take m classes) (sym (add-one k)))
      (classes_more n (take k classes) c old mid new a b first second)

  -- all of them
  pub classes_end : (n : ℕ) (classes : List ℕ) (k : ℕ) (old new : arriving.Arrived) (b : Bool) → length classes ≤ k → NotesClasses p t completes n (take k classes) old new b → NotesClasses p t completes n classes old new b
  classes_end n classes k old new b le h = subst (λ xs. NotesClasses p t completes n xs old new b) (take_all k classes le) h

  -- ---- a row

  module _ (headed : IsHeaded p) (local : IsLocal p) (type_of : Types) (typed : (n : ℕ) → Finds (type_of n) (λ a. Typed p t n a)) (n : ℕ) (old new : arriving.Arrived) (before : AreArrived p t completes n old) where
    -- what throws is no member
    thrower : (c : ℕ) → ThrownAt p t n c → IsCode (label p n) → ⊥
    thrower c (ThrownAt.value at h) code = subst IsCode at code
    thrower c (ThrownAt.declared i e h) code = no_invocation (label p n) i code

    module _ (classes : List ℕ) (are : classes ≡ thrown_at p t type_of n) (b : Bool) (notes : NotesClasses p t completes n classes old new b) where
      lists : (d : ℕ) → Decides (has classes d) (ThrownAt p t n d)
      lists d = subst (λ xs. Decides (has xs d) (ThrownAt p t n d)) (sym are) (thrown_list p t local type_of typed n d)

      uncaught_is : b ≡ is_uncaught p t type_of completes n
      uncaught_is = one_test b (is_uncaught p t type_of completes n) (IsUncaught p t completes n)
          (like notes.uncaught
          (λ h. record { class = h.0; thrown = (lists h.0).0 h.1; checked = h.2.checked; member = h.2.member; is_code = h.2.reached.is_code; comes = h.2.reached.comes; kept = h.2.kept })
          (λ h. (h.class, (lists h.class).1 h.thrown, record { checked = h.checked; member = h.member; reached = record { is_code = h.is_code; comes = h.comes }; kept = h.kept })))
          (uncaught_tells p t headed local completes type_of typed n)

      thrown_row : (o d : ℕ) → Decides (has_pair new.thrown o d) ((j : ℕ) × (j < n + 1) × RowThrows p t completes o d j)
      thrown_row o d = like (notes.thrown o d)
          (⊎_elim (λ h. let k = (before.thrown o d).0 h in let lt = k.1 in (k.0, omega arith, k.2)) (λ h. (n, omega arith, record { thrown = (lists d).0 h.0; checked = h.1; left = h.2 })))
          (λ h. let lt = h.1 in ⊎_elim (λ e. let k = subst (RowThrows p t completes o d) e h.2 in inr ((lists d).1 k.thrown, k.checked, k.left)) (λ apart. inl ((before.thrown o d).1 (h.0, omega arith, h.2))) (cases_eq h.0 n))

      pub row_told : NotesRow p t type_of completes n new b
      row_told = record { uncaught = uncaught_is; arrived = record { thrown = thrown_row; above = notes.above before.above } }

    pub some_thrown : (classes : List ℕ) → classes ≡ thrown_at p t type_of n → (classes ≡ [] → ⊥) → IsCode (label p n) → ⊥
    some_thrown [] are some is = some refl
    some_thrown (c ∷ more) are some is = thrower c ((thrown_list p t local type_of typed n c).0 (subst (λ xs. has xs c ≡ true) are (or_left (nat_eq c c) (has more c) ((Decides-eqb c c).1 refl)))) is

  pub no_classes : (classes : List ℕ) (count : ℕ) (b : Bool) → count ≡ length classes → b ≡ nat_eq count 0 → b ≡ true → classes ≡ []
  no_classes [] count b long is e = refl
  no_classes (c ∷ more) count b long is e = let none = (Decides-eqb count 0).0 (sym is ∙ e) in absurd (omega arith)

  pub some_classes : (classes : List ℕ) (count : ℕ) (b : Bool) → count ≡ length classes → b ≡ nat_eq count 0 → b ≡ false → classes ≡ [] → ⊥
  some_classes classes count b long is e empty = let none = ap length empty in false≢true (sym e ∙ is ∙ (Decides-eqb count 0).1 (omega arith))

  -- ---- all rows

  pub arrived_start : (arrived : arriving.Arrived) → arrived.thrown ≡ [] → arrived.above ≡ [] → AreArrived p t completes 0 arrived
  arrived_start arrived e f = record {
    thrown = λ o d. subst (λ xs. Decides (has_pair xs o d) ((j : ℕ) × (j < 0) × RowThrows p t completes o d j)) (sym e) (like never (λ k. absurd k) (λ k. let lt = k.1 in omega arith));
    above = subst (λ xs. AreAbove p t xs arrived.above) (sym e) (subst (λ ys. AreAbove p t [] ys) (sym f) (λ o c. like never (λ k. absurd k) (λ k. false≢true k.1)));
  }

  pub thrower_row : (n c : ℕ) → ThrownAt p t n c → n < length p
  thrower_row n c (ThrownAt.value at h) = bounded (λ l. l ≡ is.Throw) (λ e. absurd (cc)) p n at
  thrower_row n c (ThrownAt.declared i e h) = bounded IsInvocation (λ h. h) p n i

  pub all_arrived : (arrived : arriving.Arrived) → AreArrived p t completes (length p) arrived → (o d : ℕ) → Decides (has_pair arrived.thrown o d) (BodyThrows p t completes o d)
  all_arrived arrived h o d = like (h.thrown o d)
      (λ k. record { row = k.0; thrown = k.2.thrown; checked = k.2.checked; body = k.2.left.body; comes = k.2.left.comes })
      (λ k. (k.row, thrower_row k.row d k.thrown, record { thrown = k.thrown; checked = k.checked; left = record { body = k.body; comes = k.comes } }))
