-- The tests of promotion, casts and assignment tell what they are to tell.
use Rattle.std.proofs.Common.{◌≡◌, ◌⊎◌, refl, sym, ◌∙◌, ap, subst, inl, inr, ⊎_elim, ℕ, zero, suc, Bool, true, false, cond, ◌&&◌, Option, Some, None, is_some, Decides}
use Rattle.std.proofs.lemmas.Bool.{false≢true}
use Rattle.std.proofs.lemmas.Option.{none-some, same_Some}
use Rattle.jr_base.specs.declared.constant.Const.{Const}
use Rattle.jr_tree.specs.Rows.{Rows}
use Rattle.jr_defs.specs.declared.referent.Element.{Element}
use Rattle.jr_defs.specs.declared.referent.Element.TheVariants as element
use Rattle.jr_defs.specs.declared.referent.RowType.{RowType}
use Rattle.jr_defs.specs.Referents.{Table}
use Rattle.jr_defs.specs.Declarations.{IsClass, IsInterface}
use Rattle.jr_defs.specs.Modifiers.{IsFinal}
use Rattle.jr_defs.specs.Types.{array, plain}
use Rattle.jr_defs.specs.Supertypes.{IsReferenceType, Subtype}
use Rattle.jr_defs.specs.Operators.{assigned_to}
use Rattle.jr_defs.specs.Constants.{ConstantOf}
use Rattle.jr_defs.specs.Conversions.{IsIntegral, IsNumeric, IsPrimitive, Promotes, PromotesBoth, IsReferenceOrNull, IsCastable, IsAssignable}
use Rattle.jr_plain.specs.Search.{Finds}
use Rattle.jr_plain.specs.Supertypes.{is_null}
use Rattle.jr_plain.specs.Headed.{IsHeaded}
use Rattle.jr_plain.specs.Conversions.{Constants, is_boolean, is_void, is_integral, is_long, is_numeric, is_primitive, promoted_type, promoted_both, plain_at, plain_of, passes, is_plain, is_reference_or_null, is_related, is_castable_class, is_castable_from, is_castable, fits_as, is_fitting, is_assignable}
use Rattle.jr_plain.proofs.Tests.{itself, always, never, both, either, opposite, like}
use Rattle.jr_plain.proofs.Declared.{class_tells, interface_tells}
use Rattle.jr_plain.proofs.Modified.{final_tells}
use Rattle.jr_plain.proofs.Supertyped.{null_tells, reference_type_tells, subtype_tells}

-- ---- tests in place of what they tell

pub no : {P : Type 0} (b : Bool) → Decides b P → (P → ⊥) → b ≡ false
no true d out = absurd (out (d.0 refl))
no false d out = refl

pub then_yes : {A P : Type 0} (b : Bool) (x y : A) → Decides b P → P → cond b x y ≡ x
then_yes b x y d h = ap (λ c. cond c x y) (d.1 h)

pub then_no : {A P : Type 0} (b : Bool) (x y : A) → Decides b P → (P → ⊥) → cond b x y ≡ y
then_no b x y d h = ap (λ c. cond c x y) (no b d h)

-- ---- kinds of element types

pub boolean_tells : (e : Element) → Decides (is_boolean e) (e ≡ element.Boolean)
boolean_tells element.Boolean = (λ h. refl, λ e. refl)
boolean_tells _ = (λ h. absurd (false≢true h), λ e. absurd (cc))

pub void_tells : (e : Element) → Decides (is_void e) (e ≡ element.Void)
void_tells element.Void = (λ h. refl, λ e. refl)
void_tells _ = (λ h. absurd (false≢true h), λ e. absurd (cc))

pub long_tells : (e : Element) → Decides (is_long e) (e ≡ element.Long)
long_tells element.Long = (λ h. refl, λ e. refl)
long_tells _ = (λ h. absurd (false≢true h), λ e. absurd (cc))

pub integral_tells : (e : Element) → Decides (is_integral e) (IsIntegral e)
integral_tells element.Byte = always
integral_tells element.Short = always
integral_tells element.Char = always
integral_tells element.Int = always
integral_tells _ = never

pub numeric_tells : (e : Element) → Decides (is_numeric e) (IsNumeric e)
numeric_tells element.Byte = always
numeric_tells element.Short = always
numeric_tells element.Char = always
numeric_tells element.Int = always
numeric_tells element.Long = always
numeric_tells _ = never

pub primitive_tells : (e : Element) → Decides (is_primitive e) (IsPrimitive e)
primitive_tells element.Boolean = always
primitive_tells element.Byte = always
primitive_tells element.Short = always
primitive_tells element.Char = always
primitive_tells element.Int = always
primitive_tells element.Long = always
primitive_tells _ = never

-- ---- promotion

long_apart : (a : Element) → a ≡ element.Long → IsIntegral a → ⊥
long_apart element.Long e h = h
long_apart _ e h = absurd (cc)

pub promoted_finds : (a : Element) → Finds (promoted_type a) (λ r. Promotes a r)
promoted_finds a r = (by (is_integral a) (integral_tells a) (is_long a) (long_tells a), into)
  where
    by : (b : Bool) → Decides b (IsIntegral a) → (c : Bool) → Decides c (a ≡ element.Long) → cond b (Some element.Int) (cond c (Some element.Long) None) ≡ Some r → Promotes a r
    by true d c k e = subst (Promotes a) (same_Some element.Int r e) (Promotes.int (d.0 refl))
    by false d true k e = subst (Promotes a) (same_Some element.Long r e) (subst (λ x. Promotes x element.Long) (sym (k.0 refl)) Promotes.long)
    by false d false k e = absurd (none-some r e)

    into : {a r : Element} → Promotes a r → promoted_type a ≡ Some r
    into (Promotes.int {a = a} h) = then_yes (is_integral a) (Some element.Int) _ (integral_tells a) h
    into Promotes.long = refl

-- a numeric type is integral, or long
numeric_parts : (a : Element) → IsNumeric a → IsIntegral a ⊎ (a ≡ element.Long)
numeric_parts element.Long h = inr refl
numeric_parts element.Byte h = inl tt
numeric_parts element.Short h = inl tt
numeric_parts element.Char h = inl tt
numeric_parts element.Int h = inl tt
numeric_parts _ h = absurd h

both_promote : (a b : Element) → IsIntegral a ⊎ (a ≡ element.Long) → IsIntegral b ⊎ (b ≡ element.Long) → IsNumeric a → IsNumeric b → (IsIntegral a × IsIntegral b → ⊥) → PromotesBoth a b element.Long
both_promote a b (inl i) (inl j) m n apart = absurd (apart (i, j))
both_promote a b (inl i) (inr e) m n apart = subst (λ x. PromotesBoth a x element.Long) (sym e) (PromotesBoth.right m)
both_promote a b (inr e) _ m n apart = subst (λ x. PromotesBoth x b element.Long) (sym e) (PromotesBoth.left n)

pub both_finds : (a b : Element) → Finds (promoted_both a b) (λ r. PromotesBoth a b r)
both_finds a b r = (by (is_integral a && is_integral b) (both (integral_tells a) (integral_tells b)) (is_numeric a && is_numeric b) (both (numeric_tells a) (numeric_tells b)), into)
  where
    by : (x : Bool) → Decides x (IsIntegral a × IsIntegral b) → (w : Bool) → Decides w (IsNumeric a × IsNumeric b) → cond x (Some element.Int) (cond w (Some element.Long) None) ≡ Some r
        → PromotesBoth a b r
    by true d w k e = let h = d.0 refl in subst (PromotesBoth a b) (same_Some element.Int r e) (PromotesBoth.int h.0 h.1)
    by false d true k e = let h = k.0 refl in
        subst (PromotesBoth a b) (same_Some element.Long r e) (both_promote a b (numeric_parts a h.0) (numeric_parts b h.1) h.0 h.1 (λ i. false≢true (d.1 i)))
    by false d false k e = absurd (none-some r e)

    into : {a b r : Element} → PromotesBoth a b r → promoted_both a b ≡ Some r
    into (PromotesBoth.int {a = a} {b = b} i j) = then_yes (is_integral a && is_integral b) (Some element.Int) _ (both (integral_tells a) (integral_tells b)) (i, j)
    into (PromotesBoth.left {b = b} h) = then_yes (is_numeric b) (Some element.Long) None (numeric_tells b) h
    into (PromotesBoth.right {a = a} h) =
        then_no (is_integral a && is_integral element.Long) (Some element.Int) _ (both (integral_tells a) (integral_tells element.Long)) (λ i. i.1)
        ∙ then_yes (is_numeric a && is_numeric element.Long) (Some element.Long) None (both (numeric_tells a) (numeric_tells element.Long)) (h, tt)

-- ---- plain types

plain_at_finds : (dims : ℕ) (e x : Element) → plain_at dims e ≡ Some x → array e dims ≡ plain x
plain_at_finds zero e x h = ap plain (same_Some e x h)
plain_at_finds (suc dims) e x h = absurd (none-some x h)

pub plain_finds : (a : RowType) → Finds (plain_of a) (λ e. a ≡ plain e)
plain_finds a e = (plain_at_finds a.dims a.element e, λ h. ap plain_of h)

pub passes_tell : (P : Element → Type 0) (test : Element → Bool) → ((e : Element) → Decides (test e) (P e)) → (a : RowType) (found : Option Element) → Finds found (λ e. a ≡ plain e)
    → Decides (passes test found) ((e : Element) × (a ≡ plain e) × P e)
passes_tell P test tells a None finds = like never (λ h. absurd h) (λ h. none-some h.0 ((finds h.0).1 h.1))
passes_tell P test tells a (Some e) finds = like (tells e) (λ h. (e, (finds e).0 refl, h)) (λ h. subst P (sym (same_Some e h.0 ((finds h.0).1 h.1))) h.2)

pub is_plain_tells : (P : Element → Type 0) (test : Element → Bool) → ((e : Element) → Decides (test e) (P e)) → (a : RowType) → Decides (is_plain test a) ((e : Element) × (a ≡ plain e) × P e)
is_plain_tells P test tells a = passes_tell P test tells a (plain_of a) (plain_finds a)

-- a plain type is this one
pub is_plain_one : (k : Element) (test : Element → Bool) → ((e : Element) → Decides (test e) (e ≡ k)) → (a : RowType) → Decides (is_plain test a) (a ≡ plain k)
is_plain_one k test tells a = like (is_plain_tells (λ e. e ≡ k) test tells a) (λ h. h.1 ∙ ap plain h.2) (λ e. (k, e, refl))

pub reference_or_null_tells : (a : RowType) → Decides (is_reference_or_null a) (IsReferenceOrNull a)
reference_or_null_tells a = either (reference_type_tells a) (is_plain_one element.Null is_null null_tells a)

-- ---- casts

module _ (p : Rows) (t : Table) (headed : IsHeaded p) where
  abbrev Related : RowType → RowType → Type 0
  Related a b = ((IsReferenceOrNull a × IsReferenceType b) × Subtype p t a b) ⊎ ((IsReferenceType a × IsReferenceType b) × Subtype p t b a)

  related_tells : (a b : RowType) → Decides (is_related p t a b) (Related a b)
  related_tells a b = either (both (both (reference_or_null_tells a) (reference_type_tells b)) (subtype_tells p t headed a b))
      (both (both (reference_type_tells a) (reference_type_tells b)) (subtype_tells p t headed b a))

  related_cast : (a b : RowType) → Related a b → IsCastable p t a b
  related_cast a b (inl h) = IsCastable.wider h.0.0 h.0.1 h.1
  related_cast a b (inr h) = IsCastable.narrower h.0.0 h.0.1 h.1

  abbrev ClassCast : ℕ → ℕ → Type 0
  ClassCast c d = (((IsInterface p c × IsClass p d) × (IsFinal p d → ⊥)) ⊎ ((IsClass p c × (IsFinal p c → ⊥)) × IsInterface p d)) ⊎ (IsInterface p c × IsInterface p d)

  class_cast_tells : (c d : ℕ) → Decides (is_castable_class p (element.Class c) (element.Class d)) (ClassCast c d)
  class_cast_tells c d = either (either (both (both (interface_tells p c) (class_tells p d)) (opposite (final_tells p d))) (both (both (class_tells p c) (opposite (final_tells p c))) (interface_tells p d)))
      (both (interface_tells p c) (interface_tells p d))

  class_cast_out : (a b : Element) → is_castable_class p a b ≡ true → IsCastable p t (plain a) (plain b)
  class_cast_out (element.Class c) (element.Class d) h =
      ⊎_elim (⊎_elim (λ k. IsCastable.interface_class k.0.0 k.0.1 k.1) (λ k. IsCastable.class_interface k.0.0 k.0.1 k.1)) (λ k. IsCastable.interfaces k.0 k.1) ((class_cast_tells c d).0 h)
  class_cast_out _ _ h = absurd (false≢true h)

  abbrev PlainCast : Element → Element → Type 0
  PlainCast a b = (((IsNumeric a × IsNumeric b) ⊎ ((a ≡ element.Boolean) × (b ≡ element.Boolean))) ⊎ (is_castable_class p a b ≡ true)) ⊎ Related (plain a) (plain b)

  plain_cast_tells : (a b : Element) → Decides (is_castable_from p t a b zero zero) (PlainCast a b)
  plain_cast_tells a b = either (either (either (both (numeric_tells a) (numeric_tells b)) (both (boolean_tells a) (boolean_tells b))) (itself (is_castable_class p a b))) (related_tells (plain a) (plain b))

  plain_cast_out : (a b : Element) → PlainCast a b → IsCastable p t (plain a) (plain b)
  plain_cast_out a b (inl (inl (inl h))) = IsCastable.numbers h.0 h.1
  plain_cast_out a b (inl (inl (inr h))) = subst (λ x. IsCastable p t (plain x) (plain b)) (sym h.0) (subst (λ x. IsCastable p t (plain element.Boolean) (plain x)) (sym h.1) IsCastable.booleans)
  plain_cast_out a b (inl (inr h)) = class_cast_out a b h
  plain_cast_out a b (inr h) = related_cast (plain a) (plain b) h

  deep_cast_tells : (a b : Element) (m n : ℕ)
      → Decides (is_castable_from p t a b (suc m) (suc n)) (((IsReferenceType (array a m) × IsReferenceType (array b n)) × (is_castable_from p t a b m n ≡ true)) ⊎ Related (array a (suc m)) (array b (suc n)))
  deep_cast_tells a b m n = either (both (both (reference_type_tells (array a m)) (reference_type_tells (array b n))) (itself (is_castable_from p t a b m n))) (related_tells (array a (suc m)) (array b (suc n)))

  castable_out : (a b : Element) (m n : ℕ) → is_castable_from p t a b m n ≡ true → IsCastable p t (array a m) (array b n)
  castable_out a b zero zero h = plain_cast_out a b ((plain_cast_tells a b).0 h)
  castable_out a b zero (suc n) h = related_cast (plain a) (array b (suc n)) ((related_tells (plain a) (array b (suc n))).0 h)
  castable_out a b (suc m) zero h = related_cast (array a (suc m)) (plain b) ((related_tells (array a (suc m)) (plain b)).0 h)
  castable_out a b (suc m) (suc n) h = by (λ k. castable_out a b m n k) ((deep_cast_tells a b m n).0 h)
    where
      by : (is_castable_from p t a b m n ≡ true → IsCastable p t (array a m) (array b n))
          → ((IsReferenceType (array a m) × IsReferenceType (array b n)) × (is_castable_from p t a b m n ≡ true)) ⊎ Related (array a (suc m)) (array b (suc n)) → IsCastable p t (array a (suc m)) (array b (suc n))
      by more (inl k) = IsCastable.arrays k.0.0 k.0.1 (more k.1)
      by more (inr k) = related_cast (array a (suc m)) (array b (suc n)) k

  related_into : (a b : Element) (m n : ℕ) → Related (array a m) (array b n) → is_castable_from p t a b m n ≡ true
  related_into a b zero zero h = (plain_cast_tells a b).1 (inr h)
  related_into a b zero (suc n) h = (related_tells (plain a) (array b (suc n))).1 h
  related_into a b (suc m) zero h = (related_tells (array a (suc m)) (plain b)).1 h
  related_into a b (suc m) (suc n) h = (deep_cast_tells a b m n).1 (inr h)

  castable_into : (a b : RowType) → IsCastable p t a b → is_castable p t a b ≡ true
  castable_into _ _ (IsCastable.numbers {a = a} {b = b} i j) = (plain_cast_tells a b).1 (inl (inl (inl (i, j))))
  castable_into _ _ IsCastable.booleans = refl
  castable_into a b (IsCastable.wider i j h) = related_into a.element b.element a.dims b.dims (inl ((i, j), h))
  castable_into a b (IsCastable.narrower i j h) = related_into a.element b.element a.dims b.dims (inr ((i, j), h))
  castable_into _ _ (IsCastable.interface_class {c = c} {d = d} i j k) =
      (plain_cast_tells (element.Class c) (element.Class d)).1 (inl (inr ((class_cast_tells c d).1 (inl (inl ((i, j), k))))))
  castable_into _ _ (IsCastable.class_interface {c = c} {d = d} i k j) =
      (plain_cast_tells (element.Class c) (element.Class d)).1 (inl (inr ((class_cast_tells c d).1 (inl (inr ((i, k), j))))))
  castable_into _ _ (IsCastable.interfaces {c = c} {d = d} i j) = (plain_cast_tells (element.Class c) (element.Class d)).1 (inl (inr ((class_cast_tells c d).1 (inr (i, j)))))
  castable_into _ _ (IsCastable.arrays {a = a} {b = b} {m = m} {n = n} i j h) = (deep_cast_tells a b m n).1 (inl ((i, j), castable_into (array a m) (array b n) h))

  pub castable_tells : (a b : RowType) → Decides (is_castable p t a b) (IsCastable p t a b)
  castable_tells a b = (castable_out a.element b.element a.dims b.dims, castable_into a b)

  -- ---- assignment

  module _ (K : ℕ → Type 0) (constant : Constants) (n : ℕ) (known : Finds (constant n) (λ v. ConstantOf p t K n v)) where
    -- the constant has a value of the type
    abbrev FitsAs : Element → Type 0
    FitsAs e = (v : Const) × (w : Const) × ConstantOf p t K n v × (assigned_to e v ≡ Some w)

    given : (e : Element) (v : Const) (found : Option Const) → ConstantOf p t K n v → assigned_to e v ≡ found → Decides (is_some found) ((w : Const) × (assigned_to e v ≡ Some w))
    given e v None c k = like never (λ h. absurd h) (λ h. none-some h.0 (sym k ∙ h.1))
    given e v (Some w) c k = (λ h. (w, k), λ h. refl)

    fits_by : (e : Element) (found : Option Const) → Finds found (λ v. ConstantOf p t K n v) → Decides (fits_as e found) (FitsAs e)
    fits_by e None finds = like never (λ h. absurd h) (λ h. none-some h.0 ((finds h.0).1 h.2))
    fits_by e (Some v) finds = let here = (finds v).0 refl in like (given e v (assigned_to e v) here refl) (λ h. (v, h.0, here, h.1))
        (λ h. (h.1, ap (assigned_to e) (same_Some v h.0 ((finds h.0).1 h.2)) ∙ h.3))

    abbrev Fitting : RowType → RowType → Type 0
    Fitting a b = (x : Element) × (w : Element) × (a ≡ plain x) × (b ≡ plain w) × ((IsIntegral x × IsIntegral w) × FitsAs w)

    fitting_by : (a b : RowType) (x w : Option Element) → Finds x (λ e. a ≡ plain e) → Finds w (λ e. b ≡ plain e) → Decides (is_fitting constant n x w) (Fitting a b)
    fitting_by a b (Some x) (Some w) i j = like (both (both (integral_tells x) (integral_tells w)) (fits_by w (constant n) known))
        (λ h. (x, w, (i x).0 refl, (j w).0 refl, h))
        (λ h. let e = same_Some x h.0 ((i h.0).1 h.2) in let f = same_Some w h.1 ((j h.1).1 h.3) in
        ((subst IsIntegral (sym e) h.4.0.0, subst IsIntegral (sym f) h.4.0.1), subst FitsAs (sym f) h.4.1))
    fitting_by a b (Some x) None i j = like never (λ h. absurd h) (λ h. none-some h.1 ((j h.1).1 h.3))
    fitting_by a b None _ i j = like never (λ h. absurd h) (λ h. none-some h.0 ((i h.0).1 h.2))

    pub assignable_tells : (a b : RowType) → Decides (is_assignable p t constant n a b) (IsAssignable p t K n a b)
    assignable_tells a b = like (either (both (opposite (is_plain_one element.Void is_void void_tells a)) (subtype_tells p t headed a b)) (fitting_by a b (plain_of a) (plain_of b) (plain_finds a) (plain_finds b))) out into
      where
        out : ((a ≡ plain element.Void → ⊥) × Subtype p t a b) ⊎ Fitting a b → IsAssignable p t K n a b
        out (inl h) = IsAssignable.widening h.0 h.1
        out (inr h) = let k = h.4.1 in subst (λ x. IsAssignable p t K n x b) (sym h.2) (subst (λ x. IsAssignable p t K n (plain h.0) x) (sym h.3) (IsAssignable.fitting h.4.0.0 h.4.0.1 k.2 k.3))

        into : {a b : RowType} → IsAssignable p t K n a b → ((a ≡ plain element.Void → ⊥) × Subtype p t a b) ⊎ Fitting a b
        into (IsAssignable.widening i h) = inl (i, h)
        into (IsAssignable.fitting {a = x} {b = w} {v = v} {w = u} i j c h) = inr (x, w, refl, refl, ((i, j), (v, u, c, h)))
