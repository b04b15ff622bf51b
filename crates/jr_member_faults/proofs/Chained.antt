-- What keeps the rules over a method that keeps them over a third keeps them over the third.
use Rattle.std.proofs.Common.{◌≡◌, ◌⊎◌, refl, sym, ◌∙◌, ap, ap₂, subst, inl, inr, ⊎_elim, arith, ℕ, suc, codes, Bool, true, false, cond, not, ◌||◌, Decides}
use Rattle.std.proofs.lemmas.Bool.{false≢true, false_from_ne_true, or_parts, cases_lt}
use Rattle.std.proofs.lemmas.Option.{same_Some}
use Rattle.jr_tree.specs.Rows.{Rows, label}
use Rattle.jr_defs.specs.declared.referent.Element.{Element}
use Rattle.jr_defs.specs.declared.referent.Element.TheVariants as element
use Rattle.jr_defs.specs.declared.referent.RowType.{RowType}
use Rattle.jr_defs.specs.Referents.{Table}
use Rattle.jr_defs.specs.Declarations.{IsObject, IsPrelude}
use Rattle.jr_defs.specs.Modifiers.{written}
use Rattle.jr_defs.specs.Types.{array, plain, class_type, HasType}
use Rattle.jr_defs.specs.Supertypes.{SuperAt, Above, AtOrAbove, Wider, Widens, IsReferenceType, Subtype}
use Rattle.jr_defs.specs.Overloads.{ResultFits}
use Rattle.jr_defs.specs.MemberRules.{IsOpenTo, IsChecked, Allows}
use Rattle.jr_plain.specs.Headed.{IsHeaded}
use Rattle.jr_plain.specs.Modifiers.{is_static}
use Rattle.jr_plain.specs.Overloads.{is_result_fit}
use Rattle.jr_plain.proofs.Tests.{decide}
use Rattle.jr_plain.proofs.Modified.{public_tells, protected_tells, private_tells}
use Rattle.jr_plain.proofs.Typed.{has_type_finds}
use Rattle.jr_plain.proofs.Overloaded.{result_tells}
use Rattle.jr_members.specs.Held.{ObjectIsBare}
use Rattle.jr_dispatch.proofs.Having.{above_then, at_then}
use Rattle.jr_member_rules.specs.Redefining.{is_narrower}
use Rattle.jr_member_rules.specs.Throwing.{declares_more}
use Rattle.jr_member_rules.proofs.Redefined.{IsNarrower, narrower_tells}
use Rattle.jr_member_rules.proofs.Thrown.{IsNotAllowed, allows_tells, declares_more_tells}
use Rattle.jr_member_faults.specs.Redefined.{are_mixed}
use Rattle.jr_member_faults.specs.Nearest.{breaks_form, Keeps, ThrowsThrowables}

-- ---- tests

pub refuted : {b : Bool} {P : Type 0} → Decides b P → (P → ⊥) → b ≡ false
refuted {b = b} d none = false_from_ne_true b (λ e. none (d.0 e))

pub refutes : {b : Bool} {P : Type 0} → Decides b P → b ≡ false → P → ⊥
refutes d e h = false≢true (sym e ∙ d.1 h)

pub unless : (b : Bool) → not b ≡ false → b ≡ true
unless true e = refl
unless false e = absurd (false≢true (sym e))

-- ---- one method over another

module _ (p : Rows) (t : Table) (m k : ℕ) where
  pub keeps_throws : Keeps p t m k → declares_more p t m k ≡ false
  keeps_throws h = (or_parts (breaks_form p t m k) (declares_more p t m k) h).1

  form_parts : Keeps p t m k → (((not (is_result_fit p t m k) || is_narrower p m k) || are_mixed p m k) ≡ false) × ((written (label p k)).is_final ≡ false)
  form_parts h = or_parts ((not (is_result_fit p t m k) || is_narrower p m k) || are_mixed p m k) (written (label p k)).is_final (or_parts (breaks_form p t m k) (declares_more p t m k) h).0

  pub keeps_final : Keeps p t m k → (written (label p k)).is_final ≡ false
  keeps_final h = (form_parts h).1

  kind_parts : Keeps p t m k → ((not (is_result_fit p t m k) || is_narrower p m k) ≡ false) × (are_mixed p m k ≡ false)
  kind_parts h = or_parts (not (is_result_fit p t m k) || is_narrower p m k) (are_mixed p m k) (form_parts h).0

  pub keeps_kind : Keeps p t m k → are_mixed p m k ≡ false
  keeps_kind h = (kind_parts h).1

  access_parts : Keeps p t m k → (not (is_result_fit p t m k) ≡ false) × (is_narrower p m k ≡ false)
  access_parts h = or_parts (not (is_result_fit p t m k)) (is_narrower p m k) (kind_parts h).0

  pub keeps_access : Keeps p t m k → is_narrower p m k ≡ false
  keeps_access h = (access_parts h).1

  pub keeps_result : Keeps p t m k → not (is_result_fit p t m k) ≡ false
  keeps_result h = (access_parts h).0

  both_false : (a b : Bool) → a ≡ false → b ≡ false → (a || b) ≡ false
  both_false a b e f = ap₂ (λ x y. x || y) e f

  all_kept : not (is_result_fit p t m k) ≡ false → is_narrower p m k ≡ false → are_mixed p m k ≡ false → (written (label p k)).is_final ≡ false → declares_more p t m k ≡ false → Keeps p t m k
  all_kept results access kind final throws = both_false _ _ (both_false _ _ (both_false _ _ (both_false _ _ results access) kind) final) throws

-- ---- results

-- no element type of classes, nor that of null
abbrev IsPrimitive : Element → Type 0
IsPrimitive (element.Class c) = ⊥
IsPrimitive element.Null = ⊥
IsPrimitive _ = Unit {0}

wider_source : {low high : Element} → Wider low high → IsPrimitive low
wider_source Wider.byte = tt
wider_source Wider.short = tt
wider_source Wider.char = tt
wider_source Wider.int = tt

widens_source : {low high : Element} → Widens low high → IsPrimitive low
widens_source (Widens.step w) = wider_source w
widens_source (Widens.steps w more) = wider_source w

of_class : {e : Element} → IsPrimitive e → IsReferenceType (plain e) → ⊥
of_class h IsReferenceType.class = h

module _ (p : Rows) (t : Table) (bare : ObjectIsBare p) where
  no_super_at : (o n s : ℕ) → IsObject p o → SuperAt p t o n s → ⊥
  no_super_at o n s is (SuperAt.implied h e) = h.below is
  no_super_at o n s is (SuperAt.class names e) = bare o n is (inl names)
  no_super_at o n s is (SuperAt.interface names e) = bare o n is (inr names)

  -- above Object stands Object alone
  object_above : {o s : ℕ} → IsObject p o → Above p t o s → IsObject p s
  object_above {o = o} {s = s} is (Above.direct up) = absurd (no_super_at o up.place s is up.at)
  object_above {o = o} is (Above.further {r = r} up more) = absurd (no_super_at o up.place r is up.at)
  object_above is (Above.object i top) = top

  class_below : {c s : ℕ} {b : RowType} → Above p t c s → Subtype p t (class_type s) b → Subtype p t (class_type c) b
  class_below h Subtype.same = Subtype.class h
  class_below h (Subtype.class k) = Subtype.class (above_then p t bare h k)
  class_below h (Subtype.primitive w) = absurd (widens_source w)

  array_below : {e : Element} {dims s : ℕ} {b : RowType} → IsObject p s → Subtype p t (class_type s) b → Subtype p t (array e (suc dims)) b
  array_below o Subtype.same = Subtype.array_object o
  array_below o (Subtype.class k) = Subtype.array_object (object_above o k)
  array_below o (Subtype.primitive w) = absurd (widens_source w)

  below_then : {a b c : RowType} → IsReferenceType a → IsReferenceType c → Subtype p t a b → Subtype p t b c → Subtype p t a c
  below_then r q Subtype.same k = k
  below_then r q (Subtype.primitive w) k = absurd (of_class (widens_source w) r)
  below_then r q (Subtype.null h) k = Subtype.null q
  below_then r q (Subtype.class h) k = class_below h k
  below_then r q (Subtype.array_object o) k = array_below o k
  below_then r q (Subtype.array_array x y h) Subtype.same = Subtype.array_array x y h
  below_then r q (Subtype.array_array x y h) (Subtype.array_object o) = Subtype.array_object o
  below_then r q (Subtype.array_array x y h) (Subtype.array_array u v k) = Subtype.array_array x v (below_then x v h k)

  one_result : (d : ℕ) (a b : RowType) → HasType p t d a → HasType p t d b → a ≡ b
  one_result d a b h k = same_Some a b (sym ((has_type_finds p t d a).1 h) ∙ (has_type_finds p t d b).1 k)

  fits_then : (m j k : ℕ) → ResultFits p t m j → ResultFits p t j k → ResultFits p t m k
  fits_then m j k (ResultFits.same {a = a} x y) (ResultFits.same {a = b} u v) = ResultFits.same x (subst (λ z. HasType p t k z) (one_result j b a u y) v)
  fits_then m j k (ResultFits.same {a = a} x y) (ResultFits.reference {a = b} u v r s h) = ResultFits.reference (subst (λ z. HasType p t m z) (one_result j a b y u) x) v r s h
  fits_then m j k (ResultFits.reference {b = b} x y r s h) (ResultFits.same {a = c} u v) = ResultFits.reference x (subst (λ z. HasType p t k z) (one_result j c b u y) v) r s h
  fits_then m j k (ResultFits.reference {b = b} x y r s h) (ResultFits.reference {a = c} {b = d} u v q w g) =
      ResultFits.reference x v r w (below_then r w h (subst (λ z. Subtype p t z d) (one_result j c b u y) g))

  -- ---- access

  access_of : (d : ℕ) → (a : ℕ) × IsOpenTo p d a
  access_of d = ⊎_elim (λ h. (3, IsOpenTo.all h)) (λ one. ⊎_elim (λ h. (2, IsOpenTo.subclasses h)) (λ two. ⊎_elim (λ h. (0, IsOpenTo.nobody h)) (λ three. (1, IsOpenTo.package_alone one two three))
      (decide (private_tells p d))) (decide (protected_tells p d))) (decide (public_tells p d))

  narrower_then : (m j k : ℕ) → is_narrower p m j ≡ false → is_narrower p j k ≡ false → is_narrower p m k ≡ false
  narrower_then m j k one two = refuted (narrower_tells p m k) wider
    where
      wider : IsNarrower p m k → ⊥
      wider h = let own = access_of j in let lt = h.2.2 in ⊎_elim (λ more. refutes (narrower_tells p m j) one (h.0, h.1, (own.0, own.1, more)))
          (λ le. refutes (narrower_tells p j k) two (own.0, own.1, (h.2.0, h.2.1, omega arith))) (cases_lt h.0 own.0)

  -- ---- static methods

  same_kind : (a b : Bool) → cond a (not b) b ≡ false → a ≡ b
  same_kind true true e = refl
  same_kind true false e = absurd (false≢true (sym e))
  same_kind false true e = absurd (false≢true (sym e))
  same_kind false false e = refl

  kind_none : (a b : Bool) → a ≡ b → cond a (not b) b ≡ false
  kind_none true true e = refl
  kind_none true false e = e
  kind_none false true e = sym e
  kind_none false false e = refl

  mixed_then : (m j k : ℕ) → are_mixed p m j ≡ false → are_mixed p j k ≡ false → are_mixed p m k ≡ false
  mixed_then m j k one two = kind_none (is_static p m) (is_static p k) (same_kind (is_static p m) (is_static p j) one ∙ same_kind (is_static p j) (is_static p k) two)

  module _ (headed : IsHeaded p) where
    results_then : (m j k : ℕ) → not (is_result_fit p t m j) ≡ false → not (is_result_fit p t j k) ≡ false → not (is_result_fit p t m k) ≡ false
    results_then m j k one two = ap not ((result_tells p t headed m k).1 (fits_then m j k ((result_tells p t headed m j).0 (unless (is_result_fit p t m j) one)) ((result_tells p t headed j k).0 (unless (is_result_fit p t j k) two))))

    -- ---- thrown classes

    checked_above : (c d s : ℕ) → IsChecked p t c → AtOrAbove p t c d → (s : ℕ) × IsPrelude p (codes "Throwable") s × AtOrAbove p t d s → IsChecked p t d
    checked_above c d s checked above top = record {
      throwable = top.0;
      is_throwable = top.1;
      below_it = top.2;
      no_error = λ e i a. checked.no_error e i (at_then p t bare c d e above a);
      no_runtime = λ e i a. checked.no_runtime e i (at_then p t bare c d e above a);
    }

    throws_then : (m j k : ℕ) → ThrowsThrowables p t j → declares_more p t m j ≡ false → declares_more p t j k ≡ false → declares_more p t m k ≡ false
    throws_then m j k throws one two = refuted (declares_more_tells p t headed m k) all_allowed
      where
        all_allowed : (n : ℕ) × IsNotAllowed p t headed m k n → ⊥
        all_allowed h = ⊎_elim by (λ none. refutes (declares_more_tells p t headed m j) one (h.0, (h.1.0, (h.1.1.0, h.1.1.1, (h.1.1.2.0, none))))) (decide (allows_tells p t headed j h.1.1.0))
          where
            c : ℕ
            c = h.1.1.0

            by : Allows p t j c → ⊥
            by allowed = let checked = checked_above c allowed.class 0 h.1.1.2.0 allowed.above (throws allowed.row allowed.class allowed.declares) in
                ⊎_elim (λ more. h.1.1.2.1 (record { row = more.row; class = more.class; declares = more.declares; above = at_then p t bare c allowed.class more.class allowed.above more.above }))
                (λ none. refutes (declares_more_tells p t headed j k) two (allowed.row, ((allowed.declares.inside, allowed.declares.named), (allowed.class, (allowed.declares.level, allowed.declares.refers), (checked, none)))))
                (decide (allows_tells p t headed k allowed.class))

    -- ---- all of it

    pub keeps_then : (m j k : ℕ) → ThrowsThrowables p t j → Keeps p t m j → Keeps p t j k → Keeps p t m k
    keeps_then m j k throws one two = all_kept p t m k (results_then m j k (keeps_result p t m j one) (keeps_result p t j k two)) (narrower_then m j k (keeps_access p t m j one) (keeps_access p t j k two))
        (mixed_then m j k (keeps_kind p t m j one) (keeps_kind p t j k two)) (keeps_final p t j k two) (throws_then m j k throws (keeps_throws p t m j one) (keeps_throws p t j k two))
