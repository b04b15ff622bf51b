-- Whether a way to write a reference fits, and the first that does, is computed.
use Rattle.std.proofs.Common.{◌≡◌, ◌⊎◌, refl, sym, ◌∙◌, ap, subst, inl, inr, ℕ, Bool, true, false, cond, not, ◌||◌, List, [], ◌∷◌, Option, Some, None, nat_eq, Decides}
use Rattle.std.specs.Option.{option_map_or}
use Rattle.std.proofs.lemmas.Bool.{false≢true}
use Rattle.std.proofs.lemmas.Bool.Decides.{Decides-eqb}
use Rattle.std.proofs.lemmas.Option.{none-some, same_Some}
use Rattle.jr_base.specs.declared.constant.Const.{Const}
use Rattle.jr_tree.specs.declared.label.Role.TheVariants as role
use Rattle.jr_tree.specs.Rows.{Rows, role_at}
use Rattle.jr_defs.specs.declared.referent.Referent.{Referent}
use Rattle.jr_defs.specs.declared.referent.Referent.TheVariants.{Unbound, Ambiguous, ArrayLength, Package, Declared}
use Rattle.jr_defs.specs.declared.referent.RowType.{RowType}
use Rattle.jr_defs.specs.Referents.{Table}
use Rattle.jr_defs.specs.Access.{IsAccessible}
use Rattle.jr_defs.specs.Constants.{ConstantVariable, HasConstantForm}
use Rattle.jr_plain.specs.Access.{is_accessible}
use Rattle.jr_plain.specs.Headed.{IsHeaded}
use Rattle.jr_plain.specs.Same.{same_level, same_referent}
use Rattle.jr_plain.proofs.Tests.{itself, always, never, both, either, opposite, like, decide}
use Rattle.jr_plain.proofs.Same.{role_tells, level_tells, referent_tells}
use Rattle.jr_plain.proofs.Modified.{static_tells}
use Rattle.jr_plain.proofs.Accessed.{accessible_tells}
use Rattle.jr_spelling_rules.specs.Candidates.{Candidate, target, level_of}
use Rattle.jr_spelling_rules.specs.Fitting.{IsLock, is_lock, HasObject, has_object, IsSameObject, is_same_object, IsReached, is_reached, IsConstant, is_constant, FitsSo, same_truth, fits_so, TellsConstants, Fits, fits, IsFirstFit, HasNoFit, first_such, found, receiver_type, through}

-- ---- what is found

target_tells : (d : ℕ) (o : Option ℕ) → Decides (option_map_or (λ e. nat_eq e d) o false) (o ≡ Some d)
target_tells d None = like never (λ h. absurd h) (λ h. none-some d h)
target_tells d (Some e) = like (Decides-eqb e d) (ap Some) (same_Some e d)

other_lock : (lock found : Referent) → target lock ≡ None → Decides (same_referent found lock) (IsLock lock found)
other_lock lock found none = like (referent_tells found lock) (λ e. record { declaration = λ d h. absurd (none-some d (sym none ∙ h)); other = λ h. e }) (λ h. h.other none)

pub lock_tells : (lock found : Referent) → Decides (is_lock lock found) (IsLock lock found)
lock_tells (Declared d level) found = like (target_tells d (target found))
    (λ e. record { declaration = λ c h. e ∙ h; other = λ h. absurd (none-some d (sym h)) }) (λ h. h.declaration d refl)
lock_tells Unbound found = other_lock Unbound found refl
lock_tells Ambiguous found = other_lock Ambiguous found refl
lock_tells ArrayLength found = other_lock ArrayLength found refl
lock_tells Package found = other_lock Package found refl

-- ---- the object

object_tells : (p : Rows) (d : ℕ) → Decides (has_object p d) (HasObject p d)
object_tells p d = either (role_tells (role_at p d) role.Constructor) (opposite (static_tells p d))

-- where the lock has the level and the declaration
abbrev SameBy : Rows → Option ℕ → Option ℕ → Option ℕ → Type 0
SameBy p through level of = (l d : ℕ) → level ≡ Some l → of ≡ Some d → HasObject p d → through ≡ Some l

abbrev same_by : Rows → Option ℕ → Option ℕ → Option ℕ → Bool
same_by p through level of = elim level as (λ _. Bool) [ Some l ↦ same_level through (Some l) || not (option_map_or (has_object p) of false) | None ↦ true ]

same_by_tells : (p : Rows) (through level of : Option ℕ) → Decides (same_by p through level of) (SameBy p through level of)
same_by_tells p through None of = like always (λ h l d e. absurd (none-some l e)) (λ f. tt)
same_by_tells p through (Some l) None = like (either (level_tells through (Some l)) (opposite never)) (λ h m d e none. absurd (none-some d none)) (λ f. inr (λ x. x))
same_by_tells p through (Some l) (Some d) = like (either (level_tells through (Some l)) (opposite (object_tells p d))) out into
  where
    out : (through ≡ Some l) ⊎ (HasObject p d → ⊥) → SameBy p through (Some l) (Some d)
    out (inl h) m e a b o = h ∙ a
    out (inr f) m e a b o = absurd (f (subst (HasObject p) (sym (same_Some d e b)) o))

    into : SameBy p through (Some l) (Some d) → (through ≡ Some l) ⊎ (HasObject p d → ⊥)
    into f = by (decide (object_tells p d))
      where
        by : HasObject p d ⊎ (HasObject p d → ⊥) → (through ≡ Some l) ⊎ (HasObject p d → ⊥)
        by (inl o) = inl (f l d refl refl o)
        by (inr f) = inr f

pub same_object_tells : (p : Rows) (lock : Referent) (through : Option ℕ) → Decides (is_same_object p lock through) (IsSameObject p lock through)
same_object_tells p lock through = same_by_tells p through (level_of lock) (target lock)

-- ---- access

module _ (p : Rows) (t : Table) where
  reached_by : IsHeaded p → (n : ℕ) (receiver : Option RowType) (of : Option ℕ) → Decides (option_map_or (λ d. is_accessible p t d n receiver) of true) ((d : ℕ) → of ≡ Some d → IsAccessible p t d n receiver)
  reached_by headed n receiver None = like always (λ h d e. absurd (none-some d e)) (λ f. tt)
  reached_by headed n receiver (Some d) = like (accessible_tells p t headed d n receiver) (λ h e is. subst (λ q. IsAccessible p t q n receiver) (same_Some d e is) h) (λ f. f d refl)

  pub reached_tells : IsHeaded p → (n : ℕ) (receiver : Option RowType) → Decides (is_reached p t n receiver) (IsReached p t n receiver)
  reached_tells headed n receiver = reached_by headed n receiver (target (t n))

  -- ---- constants

  abbrev HasValue : ℕ → Type 0
  HasValue d = (v : Const) × ConstantVariable p t (HasConstantForm p t) d v

  value_by : (variable : ℕ → Bool) → TellsConstants p t variable → (of : Option ℕ) → Decides (option_map_or variable of false) ((d : ℕ) × (of ≡ Some d) × HasValue d)
  value_by variable tells None = like never (λ h. absurd h) (λ h. none-some h.0 h.1)
  value_by variable tells (Some d) = like (tells d) (λ h. (d, refl, h)) (λ h. subst HasValue (sym (same_Some d h.0 h.1)) h.2)

  pub constant_tells : (variable : ℕ → Bool) → TellsConstants p t variable → (lock : Referent) (form : Bool) → Decides (is_constant variable lock form) (IsConstant p t lock form)
  constant_tells variable tells lock form = like (both (itself form) (value_by variable tells (target lock)))
      (λ h. record { of_form = h.0; variable = h.1.0; names = h.1.1; value = h.1.2.0; is = h.1.2.1 }) (λ h. (h.of_form, (h.variable, h.names, (h.value, h.is))))

-- two tests tell the same
truth_tells : {a : Bool} {P : Type 0} → Decides a P → (b : Bool) → Decides (same_truth a b) (Decides b P)
truth_tells {a = true} d b = like (itself b) (λ e. (λ h. d.0 refl, λ h. e)) (λ f. f.1 (d.0 refl))
truth_tells {a = false} d true = like never (λ h. absurd h) (λ f. false≢true (d.1 (f.0 refl)))
truth_tells {a = false} d false = like always (λ h. (λ e. absurd (false≢true e), λ h. d.1 h)) (λ f. tt)

-- ---- fitting

module _ (p : Rows) (t : Table) (variable was_constant : ℕ → Bool) (headed : IsHeaded p) (tells : TellsConstants p t variable) where
  pub fits_so_tells : (n : ℕ) (found : Referent) (receiver : Option RowType) (through : Option ℕ) (form : Bool)
      → Decides (fits_so p t variable was_constant n found receiver through form) (FitsSo p t was_constant n found receiver through form)
  fits_so_tells n found receiver through form = like
      (both (lock_tells (t n) found) (both (same_object_tells p (t n) through) (both (reached_tells p t headed n receiver) (truth_tells (constant_tells p t variable tells (t n) form) (was_constant n)))))
      (λ h. record { lock = h.0; object = h.1.0; reached = h.1.1.0; constant = h.1.1.1 }) (λ h. (h.lock, (h.object, (h.reached, h.constant))))

  pub fits_tells : (n : ℕ) (c : Candidate) → Decides (fits p t n was_constant variable c) (Fits p t n was_constant c)
  fits_tells n c = fits_so_tells n (found p t n c) (receiver_type p c.left) (through p t n c) c.is_constant_form

-- ---- the first that fits

module _ (F : Candidate → Type 0) (test : Candidate → Bool) (tells : (c : Candidate) → Decides (test c) (F c)) where
  refused : (c : Candidate) → test c ≡ false → F c → ⊥
  refused c e f = false≢true (sym e ∙ (tells c).1 f)

  is_refused : (c : Candidate) → (F c → ⊥) → (b : Bool) → test c ≡ b → b ≡ false
  is_refused c f true e = absurd (f ((tells c).0 e))
  is_refused c f false e = refl

  pub first_such_is : (all : List Candidate) (c : Candidate) → first_such test all ≡ Some c → IsFirstFit F all c
  first_such_is [] c h = absurd (none-some c h)
  first_such_is (d ∷ rest) c h = by (first_such_is rest c) (test d) refl h
    where
      by : (first_such test rest ≡ Some c → IsFirstFit F rest c) → (b : Bool) → test d ≡ b → cond b (Some d) (first_such test rest) ≡ Some c → IsFirstFit F (d ∷ rest) c
      by behind true e h = subst (IsFirstFit F (d ∷ rest)) (same_Some d c h) (IsFirstFit.here ((tells d).0 e))
      by behind false e h = IsFirstFit.later (refused d e) (behind h)

  pub no_such : (all : List Candidate) → first_such test all ≡ None → HasNoFit F all
  no_such [] h = HasNoFit.none
  no_such (d ∷ rest) h = by (no_such rest) (test d) refl h
    where
      by : (first_such test rest ≡ None → HasNoFit F rest) → (b : Bool) → test d ≡ b → cond b (Some d) (first_such test rest) ≡ None → HasNoFit F (d ∷ rest)
      by behind true e h = absurd (none-some d (sym h))
      by behind false e h = HasNoFit.later (refused d e) (behind h)

  pub first_found : {all : List Candidate} {c : Candidate} → IsFirstFit F all c → first_such test all ≡ Some c
  first_found (IsFirstFit.here {c = c} {rest = rest} f) = ap (λ b. cond b (Some c) (first_such test rest)) ((tells c).1 f)
  first_found (IsFirstFit.later {d = d} {rest = rest} f h) = ap (λ b. cond b (Some d) (first_such test rest)) (is_refused d f (test d) refl) ∙ first_found h

  pub none_found : {all : List Candidate} → HasNoFit F all → first_such test all ≡ None
  none_found HasNoFit.none = refl
  none_found (HasNoFit.later {d = d} {rest = rest} f h) = ap (λ b. cond b (Some d) (first_such test rest)) (is_refused d f (test d) refl) ∙ none_found h
