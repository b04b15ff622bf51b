-- The catches that stand in a table, and those whose class an earlier one catches.
use Rattle.std.proofs.Common.{◌≡◌, ◌⊎◌, refl, sym, ◌∙◌, ap, subst, inl, inr, ⊎_elim, arith, ℕ, zero, suc, ◌+◌, ◌<◌, ◌≤◌, Bool, true, false, cond, ◌||◌, List, [], ◌∷◌, length, Option, Some, None, nat_eq, Decides}
use Rattle.std.specs.List.{list_any}
use Rattle.std.proofs.lemmas.Bool.{false≢true, cases_eq}
use Rattle.std.proofs.lemmas.Bool.Decides.{Decides-eqb}
use Rattle.std.proofs.lemmas.Option.{none-some, same_Some}
use Rattle.jr_tree.specs.declared.label.Label.{Label}
use Rattle.jr_tree.specs.declared.label.Label.TheVariants as is
use Rattle.jr_tree.specs.Rows.{Rows, label, parent}
use Rattle.jr_plain.proofs.Bounds.{label_past}
use Rattle.jr_defs.specs.declared.referent.Element.{Element}
use Rattle.jr_defs.specs.declared.referent.Element.TheVariants as element
use Rattle.jr_defs.specs.declared.referent.RowType.{RowType}
use Rattle.jr_defs.specs.Referents.{Table}
use Rattle.jr_defs.specs.Supertypes.{AtOrAbove}
use Rattle.jr_defs.specs.Types.{class_type, HasType}
use Rattle.jr_plain.specs.Headed.{IsHeaded}
use Rattle.jr_plain.specs.Search.{Finds, has}
use Rattle.jr_plain.specs.Supertypes.{is_at_or_above}
use Rattle.jr_plain.specs.Types.{type_of_declared, type_of_by}
use Rattle.jr_plain.proofs.Modified.{found_tells}
use Rattle.jr_plain.proofs.Searches.{any, some_of}
use Rattle.jr_plain.proofs.Supertyped.{at_or_above_tells}
use Rattle.jr_plain.proofs.Tests.{both, like}
use Rattle.jr_plain.proofs.Typed.{has_type_finds}
use Rattle.jr_places.specs.declared.chains.Entry.{Entry}
use Rattle.jr_rules.specs.StatementTests.{is_catch}
use Rattle.jr_supers.specs.Pairs.{has_pair}
use Rattle.jr_supers.specs.Supers.{AreSupersOf, ListsOnce}
use Rattle.jr_supers.proofs.Keys.{with_pairs_tell}
use Rattle.jr_supers.proofs.Subtyped.{one_test}
use Rattle.jr_flow_faults.specs.Exceptions.{IsCatchOf, CatchesBefore, IsCovered}
use Rattle.jr_flow_faults.specs.ExceptionTests.{class_by, class_of, class_in, catch_class, catches_before, is_covered, AreCatchesTo, with_class, with_catch}

-- ---- the class that a type is

class_out : (dims : ℕ) (e : Element) (c : ℕ) → class_by dims e ≡ Some c → record { element = e; dims = dims } ≡ class_type c
class_out zero (element.Class d) c h = ap class_type (same_Some d c h)
class_out zero _ c h = absurd (none-some c h)
class_out (suc dims) e c h = absurd (none-some c h)

pub class_finds : {P : RowType → Type 0} (type : Option RowType) → Finds type P → Finds (class_in type) (λ c. P (class_type c))
class_finds None f c = (λ h. absurd (none-some c h), λ h. absurd (none-some (class_type c) ((f (class_type c)).1 h)))
class_finds {P} (Some a) f c = (λ h. subst P (class_out a.dims a.element c h) ((f a).0 refl), λ h. ap class_of (same_Some a (class_type c) ((f (class_type c)).1 h)))

-- past the rows there is none
pub no_parameter : (p : Rows) (t : Table) (n : ℕ) → length p ≤ n → class_in (type_of_declared p t n) ≡ None
no_parameter p t n le = ap (λ l. class_in (type_of_by p t n l)) (label_past p n le)

-- ---- catches

pub catch_tells : (l : Label) → Decides (is_catch l) (l ≡ is.Catch)
catch_tells is.Catch = (λ h. refl, λ e. refl)
catch_tells _ = (λ h. absurd (false≢true h), λ e. absurd (cc))

find_if : {P : ℕ → Type 0} {Q : Type 0} (b : Bool) (found : Option ℕ) → Decides b Q → Finds found P → Finds (cond b found None) (λ c. Q × P c)
find_if true found d f c = (λ h. (d.0 refl, (f c).0 h), λ h. (f c).1 h.1)
find_if false found d f c = (λ h. absurd (none-some c h), λ h. absurd (false≢true (d.1 h.0)))

pub one_item : (c x : ℕ) → has (c ∷ []) x ≡ true → c ≡ x
one_item c x h = by (nat_eq c x) refl h
  where
    by : (b : Bool) → nat_eq c x ≡ b → (b || false) ≡ true → c ≡ x
    by true e h = (Decides-eqb c x).0 e
    by false e h = absurd (false≢true h)

pub item_one : (c : ℕ) → has (c ∷ []) c ≡ true
item_one c = ap (λ b. b || false) ((Decides-eqb c c).1 refl)

module _ (p : Rows) (t : Table) where
  abbrev IsClassOf : ℕ → ℕ → Type 0
  IsClassOf k c = (label p k ≡ is.Catch) × HasType p t (k + 1) (class_type c)

  pub catch_finds : (k : ℕ) → Finds (catch_class p t k) (IsClassOf k)
  catch_finds k = find_if (is_catch (label p k)) (class_in (type_of_declared p t (k + 1))) (catch_tells (label p k)) (class_finds (type_of_declared p t (k + 1)) (has_type_finds p t (k + 1)))

  module _ (headed : IsHeaded p) where
    pub before_tells : (o k c : ℕ) → Decides (catches_before p t o k c) (CatchesBefore p t o k c)
    before_tells o k c = like
        (any _ (λ j. (parent p j ≡ o) × ((d : ℕ) × IsClassOf j d × AtOrAbove p t c d))
        (λ j. both (Decides-eqb (parent p j) o) (found_tells (IsClassOf j) (is_at_or_above p t c) (AtOrAbove p t c) (at_or_above_tells p t headed c) (catch_class p t j) (catch_finds j))) k)
        (λ h. record { row = h.0; class = h.2.1.0; catch = record { catch = h.2.1.1.0; inside = h.2.0; type = h.2.1.1.1 }; before = h.1; above = h.2.1.2 })
        (λ h. (h.row, h.before, (h.catch.inside, (h.class, (h.catch.catch, h.catch.type), h.above))))

    pub covered_tells : (n : ℕ) → Decides (is_covered p t n) (IsCovered p t n)
    covered_tells n = like (found_tells (IsClassOf n) (catches_before p t (parent p n) n) (CatchesBefore p t (parent p n) n) (before_tells (parent p n) n) (catch_class p t n) (catch_finds n))
        (λ h. record { class = h.0; catch = record { catch = h.1.0; inside = refl; type = h.1.1 }; earlier = h.2 })
        (λ h. (h.class, (h.catch.catch, h.catch.type), h.earlier))

  -- by a table of them
  pub catches_told : (supers : _) (pairs : List Entry) (n o c : ℕ) (uppers : List ℕ) (b : Bool) → AreSupersOf p t supers → AreCatchesTo p t n pairs → ListsOnce uppers (AtOrAbove p t c)
      → b ≡ list_any (λ high. has_pair pairs o high) uppers → b ≡ catches_before p t o n c
  catches_told supers pairs n o c uppers b above are lists is = is ∙ one_test (list_any (λ high. has_pair pairs o high) uppers) (catches_before p t o n c) (CatchesBefore p t o n c)
      (like (some_of (λ high. has_pair pairs o high) (λ d. (k : ℕ) × (k < n) × IsCatchOf p t o k d) (λ d. are o d) uppers lists.has)
      (λ h. record { row = h.2.0; class = h.0; catch = h.2.2; before = h.2.1; above = h.1 })
      (λ h. (h.class, h.above, (h.row, h.before, h.catch))))
      (before_tells above.well.headed o n c)

  -- ---- one row more

  pub catches_start : (pairs : List Entry) → pairs ≡ [] → AreCatchesTo p t 0 pairs
  catches_start pairs none = subst (AreCatchesTo p t 0) (sym none) (λ o c. (λ e. absurd (false≢true e), λ h. let lt = h.1 in absurd (omega arith)))

  abbrev CatchesTo : ℕ → ℕ → ℕ → Type 0
  CatchesTo n o c = (k : ℕ) × (k < n) × IsCatchOf p t o k c

  more_out : (n o c : ℕ) → CatchesTo n o c ⊎ IsCatchOf p t o n c → CatchesTo (n + 1) o c
  more_out n o c (inl h) = let lt = h.1 in (h.0, omega arith, h.2)
  more_out n o c (inr h) = (n, omega arith, h)

  more_into : (n o c : ℕ) → CatchesTo (n + 1) o c → CatchesTo n o c ⊎ IsCatchOf p t o n c
  more_into n o c h = let lt = h.1 in ⊎_elim (λ e. inr (subst (λ k. IsCatchOf p t o k c) e h.2)) (λ apart. inl (h.0, omega arith, h.2)) (cases_eq h.0 n)

  pub catches_more : (n : ℕ) (old new : List Entry) → AreCatchesTo p t n old → new ≡ with_catch p t old n → AreCatchesTo p t (n + 1) new
  catches_more n old new are is = subst (AreCatchesTo p t (n + 1)) (sym is) (by (catch_class p t n) (catch_finds n))
    where
      by : (found : Option ℕ) → Finds found (IsClassOf n) → AreCatchesTo p t (n + 1) (with_class old (parent p n) found)
      by None f o c = like (are o c) (λ h. more_out n o c (inl h))
          (λ h. ⊎_elim (λ k. k) (λ k. absurd (none-some c ((f c).1 (k.catch, k.type)))) (more_into n o c h))
      by (Some d) f o c = like (with_pairs_tell old (parent p n) (d ∷ []) o c)
          (λ h. more_out n o c (⊎_elim (λ k. inl ((are o c).0 k))
          (λ k. let own = (f c).0 (ap Some (one_item d c k.1)) in inr (record { catch = own.0; inside = k.0; type = own.1 })) h))
          (λ h. ⊎_elim (λ k. inl ((are o c).1 k)) (λ k. let same = same_Some d c ((f c).1 (k.catch, k.type)) in inr (k.inside, subst (λ x. has (d ∷ []) x ≡ true) same (item_one d))) (more_into n o c h))
