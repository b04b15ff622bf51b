-- Classes that come out of bodies, and catches of what no body throws.
use Rattle.std.proofs.Common.{◌≡◌, ◌⊎◌, refl, sym, ◌∙◌, ap, subst, inl, inr, ⊎_elim, ℕ, Bool, true, false, cond, not, ◌||◌, List, [], ◌∷◌, ◌++◌, codes, Some, None, Decides}
use Rattle.std.specs.List.{list_any}
use Rattle.std.proofs.lemmas.Bool.{false≢true}
use Rattle.std.proofs.lemmas.Option.{none-some, same_Some}
use Rattle.jr_tree.specs.Rows.{Rows, parent}
use Rattle.jr_defs.specs.Declarations.{IsPrelude}
use Rattle.jr_defs.specs.MemberRules.{IsChecked}
use Rattle.jr_defs.specs.Referents.{Table, entries}
use Rattle.jr_defs.specs.Supertypes.{AtOrAbove}
use Rattle.jr_plain.specs.Overloads.{Types}
use Rattle.jr_plain.specs.Search.{has}
use Rattle.jr_plain.proofs.Tests.{either, itself, like, opposite}
use Rattle.jr_plain.proofs.Searches.{some_of}
use Rattle.jr_places.specs.declared.chains.Entry.{Entry}
use Rattle.jr_supers.specs.Pairs.{has_pair, with_pair, with_pairs}
use Rattle.jr_supers.specs.Supers.{ListsOnce}
use Rattle.jr_supers.specs.declared.subtypes.Supers as upper
use Rattle.jr_supers.specs.declared.tabled.Tabled as tabled
use Rattle.jr_supers.proofs.Keys.{HasOr, with_pairs_tell}
use Rattle.jr_supers.proofs.Subtyped.{one_test}
use Rattle.jr_flow_faults.specs.declared.catches.Arrived as code
use Rattle.jr_flow_faults.specs.declared.classes.Roots as rooted
use Rattle.jr_flow_faults.specs.Exceptions.{IsUnthrown}
use Rattle.jr_flow_faults.specs.Roots.{AreRoots, is_general}
use Rattle.jr_flow_faults.specs.Outwards.{AreAbove}
use Rattle.jr_flow_faults.specs.Arriving.{HasRelated, IsUnthrownClass, IsUnthrownCatch, IsTelling, AreAllArrived}
use Rattle.jr_flow_faults.specs.ExceptionTests.{catch_class, is_unthrown}
use Rattle.jr_flow_faults.proofs.Covered.{catch_finds}
use Rattle.jr_flow_faults.proofs.Followed.{pair_tells}
use Rattle.jr_flow_faults.proofs.Guarded.{it_tells}
use Rattle.jr_flow_faults.proofs.Uncaught.{unthrown_tells}

-- a pair that is there changes nothing
pub pair_kept : (pairs : List Entry) (low high : ℕ) → true ≡ has_pair pairs low high → pairs ≡ with_pair pairs low high
pair_kept pairs low high h = ap (λ b. cond b pairs (pairs ++ record { first = low; second = high; row = high } ∷ [])) h

-- ---- one class more under a `try`

module _ (p : Rows) (t : Table) (thrown above : List Entry) (o c : ℕ) (uppers : List ℕ) (lists : ListsOnce uppers (AtOrAbove p t c)) (are : AreAbove p t thrown above) where
  abbrev Under : ℕ → ℕ → Type 0
  Under x d = (e : ℕ) × (has_pair (with_pair thrown o c) x e ≡ true) × AtOrAbove p t e d

  above_out : (x d : ℕ) → HasOr above o (λ y. has uppers y ≡ true) x d → Under x d
  above_out x d (inl h) = let k = (are x d).0 h in (k.0, (pair_tells thrown o c x k.0).1 (inl k.1), k.2)
  above_out x d (inr h) = (c, (pair_tells thrown o c x c).1 (inr (h.0, refl)), (lists.has d).0 h.1)

  above_into : (x d : ℕ) → Under x d → HasOr above o (λ y. has uppers y ≡ true) x d
  above_into x d h = ⊎_elim (λ k. inl ((are x d).1 (h.0, k, h.2))) (λ k. inr (k.0, (lists.has d).1 (subst (λ e. AtOrAbove p t e d) (sym k.1) h.2))) ((pair_tells thrown o c x h.0).0 h.1)

  above_more : AreAbove p t (with_pair thrown o c) (with_pairs above o uppers)
  above_more x d = like (with_pairs_tell above o uppers x d) (above_out x d) (above_into x d)

pub above_told : (p : Rows) (t : Table) (thrown above new_thrown new_above : List Entry) (o c : ℕ) (uppers : List ℕ) → ListsOnce uppers (AtOrAbove p t c) → AreAbove p t thrown above
    → new_thrown ≡ with_pair thrown o c → new_above ≡ with_pairs above o uppers → AreAbove p t new_thrown new_above
above_told p t thrown above new_thrown new_above o c uppers lists are e f = subst (λ x. AreAbove p t x new_above) (sym e) (subst (λ y. AreAbove p t (with_pair thrown o c) y) (sym f) (above_more p t thrown above o c uppers lists are))

-- ---- a class that is related to one of them

pub related_told : (p : Rows) (t : Table) (thrown above : List Entry) (o c : ℕ) (uppers : List ℕ) (a b : Bool) → ListsOnce uppers (AtOrAbove p t c) → AreAbove p t thrown above
    → a ≡ has_pair above o c → b ≡ list_any (λ high. has_pair thrown o high) uppers → Decides (a || b) (HasRelated p t thrown o c)
related_told p t thrown above o c uppers a b lists are e f = subst (λ x. Decides (x || b) (HasRelated p t thrown o c)) (sym e) (subst (λ y. Decides (has_pair above o c || y) (HasRelated p t thrown o c)) (sym f)
    (like (either (are o c) (some_of (λ high. has_pair thrown o high) (λ d. has_pair thrown o d ≡ true) (λ d. itself (has_pair thrown o d)) uppers lists.has))
    (⊎_elim (λ h. record { class = h.0; listed = h.1; related = inl h.2 }) (λ h. record { class = h.0; listed = h.2; related = inr h.1 }))
    (λ h. ⊎_elim (λ k. inl (h.class, h.listed, k)) (λ k. inr (h.class, k, h.listed)) h.related)))

pub general_tells : (p : Rows) (roots : rooted.Roots) → AreRoots p roots → (c : ℕ) → Decides (is_general roots c) (IsPrelude p (codes "Exception") c ⊎ IsPrelude p (codes "Throwable") c)
general_tells p roots are c = either (it_tells roots.exception are.exception c) (it_tells roots.throwable are.throwable c)

module _ (p : Rows) (t : Table) (thrown : List Entry) (o c : ℕ) where
  -- it is not checked
  pub no_unchecked : (b : Bool) → Decides b (IsChecked p t c) → b ≡ false → Decides false (IsUnthrownClass p t thrown o c)
  no_unchecked b d e = (λ k. absurd (false≢true k), λ k. absurd (false≢true (sym e ∙ d.1 k.checked)))

  module _ (roots : rooted.Roots) (are : AreRoots p roots) where
    -- it is general
    pub no_general : (b : Bool) → b ≡ is_general roots c → b ≡ true → Decides false (IsUnthrownClass p t thrown o c)
    no_general b is e = (λ k. absurd (false≢true k), λ k. absurd (⊎_elim k.no_exception k.no_throwable ((general_tells p roots are c).0 (sym is ∙ e))))

    pub unthrown_class : (a b can : Bool) → Decides a (IsChecked p t c) → a ≡ true → b ≡ is_general roots c → b ≡ false → Decides can (HasRelated p t thrown o c) → Decides (not can) (IsUnthrownClass p t thrown o c)
    unthrown_class a b can d checked is apart related = like (opposite related)
        (λ k. record { checked = d.0 checked; no_exception = λ i. general (inl i); no_throwable = λ i. general (inr i); none = k })
        (λ k. k.none)
      where
        general : IsPrelude p (codes "Exception") c ⊎ IsPrelude p (codes "Throwable") c → ⊥
        general i = false≢true (sym apart ∙ is ∙ (general_tells p roots are c).1 i)

pub unthrown_some : (p : Rows) (t : Table) (thrown : List Entry) (n c : ℕ) (b : Bool) → catch_class p t n ≡ Some c → Decides b (IsUnthrownClass p t thrown (parent p n) c) → Decides b (IsUnthrownCatch p t thrown n)
unthrown_some p t thrown n c b is d = like d (λ h. record { class = c; caught = is; unthrown = h }) (λ h. subst (λ x. IsUnthrownClass p t thrown (parent p n) x) (same_Some h.class c (sym h.caught ∙ is)) h.unthrown)

pub unthrown_none : (p : Rows) (t : Table) (thrown : List Entry) (n : ℕ) → catch_class p t n ≡ None → Decides false (IsUnthrownCatch p t thrown n)
unthrown_none p t thrown n is = (λ h. absurd (false≢true h), λ h. absurd (none-some h.class (sym is ∙ h.caught)))

-- ---- the rule

module _ (under : tabled.Tabled) (supers : upper.Supers) (roots : rooted.Roots) (arrived : code.Arrived) (telling : IsTelling under supers roots arrived)
    (type_of : Types) (completes : ℕ → Bool) (all : AreAllArrived under type_of completes arrived) where
  abbrev p : Rows
  p = under.rows.now

  abbrev t : Table
  t = entries under.table.now

  catch_out : (n : ℕ) → IsUnthrownCatch p t arrived.thrown n → IsUnthrown p t completes n
  catch_out n h = let own = (catch_finds p t n h.class).0 h.caught in record {
    class = h.class;
    catch = record { catch = own.0; inside = refl; type = own.1 };
    checked = h.unthrown.checked;
    no_exception = h.unthrown.no_exception;
    no_throwable = h.unthrown.no_throwable;
    unthrown = λ d throws related. h.unthrown.none (record { class = d; listed = (all.thrown (parent p n) d).1 throws; related = related });
  }

  catch_into : (n : ℕ) → IsUnthrown p t completes n → IsUnthrownCatch p t arrived.thrown n
  catch_into n h = record {
    class = h.class;
    caught = (catch_finds p t n h.class).1 (h.catch.catch, h.catch.type);
    unthrown = record {
      checked = h.checked;
      no_exception = h.no_exception;
      no_throwable = h.no_throwable;
      none = λ k. h.unthrown k.class ((all.thrown (parent p n) k.class).0 k.listed) k.related;
    };
  }

  pub unthrown_told : (n : ℕ) (b : Bool) → Decides b (IsUnthrownCatch p t arrived.thrown n) → b ≡ is_unthrown p t type_of completes n
  unthrown_told n b d = one_test b (is_unthrown p t type_of completes n) (IsUnthrown p t completes n) (like d (catch_out n) (catch_into n))
      (unthrown_tells p t telling.supers_are.well.headed telling.local completes type_of all.typed n)
