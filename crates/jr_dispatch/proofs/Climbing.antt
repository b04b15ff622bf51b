-- The way up superclasses ends, and a call finds a method on it (JLS 15.12.4.4).
use Rattle.std.proofs.Common.{◌≡◌, ◌⊎◌, sym, ◌∙◌, subst, inl, inr, ⊎_elim, arith, ℕ, zero, suc, ◌+◌, ◌≤◌, Bool, true, false, ◌||◌, List, [], ◌∷◌, length, Option, Some, None, Decides}
use Rattle.std.proofs.lemmas.Bool.{false≢true, or_cases, or_left, or_right}
use Rattle.std.proofs.lemmas.Option.{none-some}
use Rattle.jr_tree.specs.Rows.{Rows}
use Rattle.jr_defs.specs.Referents.{Table}
use Rattle.jr_defs.specs.Declarations.{IsType}
use Rattle.jr_defs.specs.Supertypes.{SuperAt, Super, Superclass}
use Rattle.jr_defs.specs.Overriding.{Has, FoundFrom, Found}
use Rattle.jr_plain.specs.Search.{has, Finds}
use Rattle.jr_plain.specs.Headed.{IsHeaded}
use Rattle.jr_plain.specs.Declarations.{is_class}
use Rattle.jr_plain.specs.Modifiers.{is_private, is_static}
use Rattle.jr_plain.proofs.Tests.{decide, either}
use Rattle.jr_plain.proofs.Declared.{type_tells, class_tells}
use Rattle.jr_plain.proofs.Modified.{private_tells, static_tells}
use Rattle.jr_plain.proofs.Supertyped.{superclass_source}
use Rattle.jr_places.specs.declared.chains.Entry.{Entry}
use Rattle.jr_supers.specs.Direct.{HasSupers}
use Rattle.jr_supers.specs.Order.{IsSuperIn, AreBehind, IsOrderOf}
use Rattle.jr_dispatch.specs.Dispatching.{IsFirstServing, EndsIn, IsFoundAs}
use Rattle.jr_dispatch.proofs.Leading.{in_cons}

module _ (p : Rows) (t : Table) where
  ends_within : (n k b : ℕ) → n ≤ k → EndsIn p t n b → EndsIn p t k b
  ends_within zero k b le h = absurd h
  ends_within (suc n) zero b le h = absurd (omega arith)
  ends_within (suc n) (suc k) b le h = λ s up. ends_within n k s (omega arith) (h s up)

  superclass_super : (b s : ℕ) → Superclass p t b s → Super p t b s
  superclass_super b s (Superclass.named {n = n} names e) = record { place = n; at = SuperAt.class names e }
  superclass_super b s (Superclass.implied h o) = record { place = b; at = SuperAt.implied h o }

  module _ (headed : IsHeaded p) (supers : List Entry) (listed : HasSupers p t supers) where
    top_ends : (n b : ℕ) → (IsType p b → ⊥) → EndsIn p t (suc n) b
    top_ends n b apart = λ s up. absurd (apart (superclass_source p t headed b s up))

    -- one more step
    next_ends : (n c : ℕ) (done : List ℕ) → ((s : ℕ) → IsSuperIn supers c s → IsType p s → has done s ≡ true) → ((s : ℕ) → has done s ≡ true → EndsIn p t (suc n) s) → EndsIn p t (suc (suc n)) c
    next_ends n c done behind ends s up = ⊎_elim (λ type. ends s (behind s ((listed.each c s).1 (superclass_super c s up)) type)) (λ apart. top_ends n s apart) (decide (type_tells p s))

    done_ends : (done rest : List ℕ) → AreBehind p supers done rest → ((c : ℕ) → has done c ≡ true → EndsIn p t (suc (length done)) c) → (c : ℕ) → (has done c ≡ true) ⊎ (has rest c ≡ true)
        → EndsIn p t (suc (length done + length rest)) c
    done_ends done [] behind ends c at = ends_within (suc (length done)) (suc (length done + 0)) c (omega arith) (⊎_elim (λ a. ends c a) (λ a. absurd (false≢true a)) at)
    done_ends done (x ∷ rest) behind ends c at = ends_within (suc (suc (length done) + length rest)) (suc (length done + suc (length rest))) c (omega arith) (done_ends (x ∷ done) rest behind.2 (λ y k. more y (in_cons x y done k)) c (moved at))
      where
        more : (y : ℕ) → (x ≡ y) ⊎ (has done y ≡ true) → EndsIn p t (suc (suc (length done))) y
        more y (inl same) = subst (λ z. EndsIn p t (suc (suc (length done))) z) same (next_ends (length done) x done behind.1 ends)
        more y (inr k) = ends_within (suc (length done)) (suc (suc (length done))) y (omega arith) (ends y k)

        moved : (has done c ≡ true) ⊎ (has (x ∷ rest) c ≡ true) → (has (x ∷ done) c ≡ true) ⊎ (has rest c ≡ true)
        moved (inl a) = inl (or_right _ (has done c) a)
        moved (inr a) = ⊎_elim (λ e. inl (or_left _ (has done c) e)) (λ b. inr b) (or_cases _ (has rest c) a)

    -- from each type the way up ends in less steps than there are types and one
    pub all_end : (order : List ℕ) → IsOrderOf p supers order → (c : ℕ) → EndsIn p t (suc (length order)) c
    all_end order h c = ⊎_elim (λ type. ends_within (suc (0 + length order)) (suc (length order)) c (omega arith) (done_ends [] order h.behind (λ y k. absurd (false≢true k)) c (inr (h.all c type)))) (λ apart. top_ends (length order) c apart) (decide (type_tells p c))

  -- ---- a step up

  module _ (c m : ℕ) where
    -- what is found from b on is found from the class
    abbrev pub LeadsFrom : ℕ → Type 0
    LeadsFrom b = (f : ℕ) → FoundFrom p t c m b f → FoundFrom p t c m c f

    pub found_here : (b f : ℕ) → LeadsFrom b → IsFirstServing p t c m b (Some f) → FoundFrom p t c m c f
    found_here b f leads h = leads f (FoundFrom.here h)

    pub found_up : (b s : ℕ) → LeadsFrom b → IsFirstServing p t c m b None → Superclass p t b s → LeadsFrom s
    found_up b s leads h up = λ f more. leads f (FoundFrom.up h up more)

    pub found_end : (b : ℕ) (over : Option ℕ) → over ≡ None → Finds over (Superclass p t b) → LeadsFrom b → IsFirstServing p t c m b None → FoundFrom p t c m c m
    found_end b over none finds leads h = leads m (FoundFrom.end h (λ s up. none-some s (sym none ∙ (finds s).1 up)))

    -- ---- a call

    pub found_no_class : is_class p c ≡ false → IsFoundAs p t c m None
    found_no_class e class held = false≢true (sym e ∙ (class_tells p c).1 class)

    pub found_not_held : (b : Bool) → b ≡ false → Decides b (Has p t c m) → IsFoundAs p t c m None
    found_not_held b e d class held = false≢true (sym e ∙ d.1 held)

    pub found_fixed : (b : Bool) → is_class p c ≡ true → b ≡ true → Decides b (Has p t c m) → (is_private p m || is_static p m) ≡ true → IsFoundAs p t c m (Some m)
    found_fixed b class e d fixed = record { class = (class_tells p c).0 class; has = d.0 e; found = Found.fixed ((either (private_tells p m) (static_tells p m)).0 fixed) }

    pub found_open : (b : Bool) (f : ℕ) → is_class p c ≡ true → b ≡ true → Decides b (Has p t c m) → (is_private p m || is_static p m) ≡ false → FoundFrom p t c m c f → IsFoundAs p t c m (Some f)
    found_open b f class e d free from = record {
      class = (class_tells p c).0 class;
      has = d.0 e;
      found = Found.dispatched (λ h. false≢true (sym free ∙ (either (private_tells p m) (static_tells p m)).1 (inl h))) (λ h. false≢true (sym free ∙ (either (private_tells p m) (static_tells p m)).1 (inr h))) from;
    }
