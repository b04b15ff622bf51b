-- The type of the conditional operator is the one that is computed.
use Rattle.std.proofs.Common.{◌≡◌, ◌⊎◌, refl, sym, ◌∙◌, ap, subst, inl, inr, ⊎_elim, ℕ, zero, suc, Bool, true, false, cond, ◌&&◌, Option, Some, None, option_map, Decides}
use Rattle.std.proofs.lemmas.Bool.{false≢true}
use Rattle.std.proofs.lemmas.Bool.Decides.{Decides-eqb}
use Rattle.std.proofs.lemmas.Option.{none-some, same_Some}
use Rattle.jr_base.specs.declared.constant.Const.{Const}
use Rattle.jr_base.specs.declared.constant.Const.TheVariants as c
use Rattle.jr_tree.specs.Rows.{Rows}
use Rattle.jr_defs.specs.declared.referent.Element.{Element}
use Rattle.jr_defs.specs.declared.referent.Element.TheVariants as element
use Rattle.jr_defs.specs.declared.referent.RowType.{RowType}
use Rattle.jr_defs.specs.Referents.{Table}
use Rattle.jr_defs.specs.Types.{array, plain}
use Rattle.jr_defs.specs.Supertypes.{Above, IsReferenceType, Subtype}
use Rattle.jr_defs.specs.Operators.{fits}
use Rattle.jr_defs.specs.Constants.{ConstantOf}
use Rattle.jr_defs.specs.Conversions.{IsNumeric, PromotesBoth}
use Rattle.jr_defs.specs.Typing.{IsSmall, FitsConstant, HasOwnType, ConditionalType}
use Rattle.jr_plain.specs.Search.{Finds}
use Rattle.jr_plain.specs.Same.{same_type}
use Rattle.jr_plain.specs.Supertypes.{is_reference, is_reference_type, is_null, is_below, is_subtype}
use Rattle.jr_plain.specs.Conversions.{Constants, is_void, promoted_both, is_plain}
use Rattle.jr_plain.specs.Typing.{IsTypable, from_plain, is_small, is_int_that_fits, is_fit, own_type, or_promoted, number_type, wider_type, mixed_type, conditional_type}
use Rattle.jr_plain.proofs.Tests.{itself, never, both, either, like, decide}
use Rattle.jr_plain.proofs.Same.{element_tells, type_tells}
use Rattle.jr_plain.proofs.Supertyped.{null_tells, reference_type_tells, above_tells, subtype_tells}
use Rattle.jr_plain.proofs.Converted.{then_yes, then_no, void_tells, both_finds, is_plain_one}
use Rattle.jr_plain.proofs.Operated.{numeric_apart, both_numeric, FromPlain, from_plain_finds}

small_tells : (e : Element) → Decides (is_small e) (IsSmall e)
small_tells e = (out e, into)
  where
    out : (e : Element) → is_small e ≡ true → IsSmall e
    out element.Byte h = IsSmall.byte
    out element.Short h = IsSmall.short
    out element.Char h = IsSmall.char
    out _ h = absurd (false≢true h)

    into : {e : Element} → IsSmall e → is_small e ≡ true
    into IsSmall.byte = refl
    into IsSmall.short = refl
    into IsSmall.char = refl

small_numeric : {e : Element} → IsSmall e → IsNumeric e
small_numeric IsSmall.byte = tt
small_numeric IsSmall.short = tt
small_numeric IsSmall.char = tt

-- ---- two types below each other are one

null_apart : (a : Element) → is_reference zero a ≡ true → is_null a ≡ true → ⊥
null_apart (element.Class s) h k = false≢true k
null_apart _ h k = false≢true h

module _ (p : Rows) (t : Table) (typable : IsTypable p t) where
  class_below : (d s : ℕ) → is_below p t (element.Class d) (element.Class s) zero zero ≡ true → (d ≡ s) ⊎ Above p t d s
  class_below d s h = by ((either (either (either (Decides-eqb d s) never) never) (above_tells p t typable.headed d s)).0 h)
    where
      by : (((d ≡ s) ⊎ ⊥) ⊎ ⊥) ⊎ Above p t d s → (d ≡ s) ⊎ Above p t d s
      by (inl (inl (inl e))) = inl e
      by (inl (inl (inr x))) = absurd x
      by (inl (inr x)) = absurd x
      by (inr h) = inr h

  classes_one : (a b : Element) → is_reference zero a ≡ true → is_reference zero b ≡ true → is_below p t a b zero zero ≡ true → is_below p t b a zero zero ≡ true → a ≡ b
  classes_one (element.Class d) (element.Class s) i j h k =
      ap element.Class (⊎_elim (λ e. e) (λ x. ⊎_elim (λ e. sym e) (λ w. typable.acyclic d s x w) (class_below s d k)) (class_below d s h))
  classes_one (element.Class d) _ i j h k = absurd (false≢true j)
  classes_one _ b i j h k = absurd (false≢true i)

  below_one : (a b : Element) (m n : ℕ) → is_reference m a ≡ true → is_reference n b ≡ true → is_below p t a b m n ≡ true → is_below p t b a n m ≡ true → array a m ≡ array b n
  below_one a b zero zero i j h k = ap plain (classes_one a b i j h k)
  below_one a b zero (suc n) i j h k = absurd (null_apart a i h)
  below_one a b (suc m) zero i j h k = absurd (null_apart b j k)
  below_one a b (suc m) (suc n) i j h k = by (λ i j x w. below_one a b m n i j x w) (deep a b m n h) (deep b a n m k)
    where
      deep : (a b : Element) (m n : ℕ) → is_below p t a b (suc m) (suc n) ≡ true → ((a ≡ b) × (m ≡ n)) ⊎ (((is_reference m a ≡ true) × (is_reference n b ≡ true)) × (is_below p t a b m n ≡ true))
      deep a b m n h = (either (both (element_tells a b) (Decides-eqb m n)) (both (both (itself (is_reference m a)) (itself (is_reference n b))) (itself (is_below p t a b m n)))).0 h

      by : (is_reference m a ≡ true → is_reference n b ≡ true → is_below p t a b m n ≡ true → is_below p t b a n m ≡ true → array a m ≡ array b n)
          → ((a ≡ b) × (m ≡ n)) ⊎ (((is_reference m a ≡ true) × (is_reference n b ≡ true)) × (is_below p t a b m n ≡ true))
          → ((b ≡ a) × (n ≡ m)) ⊎ (((is_reference n b ≡ true) × (is_reference m a ≡ true)) × (is_below p t b a n m ≡ true)) → array a (suc m) ≡ array b (suc n)
      by more (inl e) _ = λ i. array (e.0 i) (suc (e.1 i))
      by more (inr h) (inl e) = sym (λ i. array (e.0 i) (suc (e.1 i)))
      by more (inr h) (inr k) = ap (λ x. array x.element (suc x.dims)) (more h.0.0 h.0.1 h.1 k.1)

  subtypes_one : (a b : RowType) → IsReferenceType a → IsReferenceType b → Subtype p t a b → Subtype p t b a → a ≡ b
  subtypes_one a b i j h k = below_one a.element b.element a.dims b.dims ((reference_type_tells a).1 i) ((reference_type_tells b).1 j)
      ((subtype_tells p t typable.headed a b).1 h) ((subtype_tells p t typable.headed b a).1 k)

  module _ (K : ℕ → Type 0) (constant : Constants) (known : (n : ℕ) → Finds (constant n) (λ v. ConstantOf p t K n v)) where
    -- ---- numbers

    int_by : (a : Element) (k : ℕ) (found : Option Const) → Finds found (λ v. ConstantOf p t K k v) → Decides (is_int_that_fits a found) ((z : _) × ConstantOf p t K k (c.Int z) × (fits a z ≡ true))
    int_by a k (Some (c.Int z)) finds = (λ h. (z, (finds (c.Int z)).0 refl, h), λ h. subst (λ x. fits a x ≡ true) (sym (number_of ((finds (c.Int h.0)).1 h.1))) h.2)
      where
        number_of : {u w : _} → Some (c.Int u) ≡ Some (c.Int w) → u ≡ w
        number_of e = cc
    int_by a k _ finds = (λ h. absurd (false≢true h), λ h. let e = (finds (c.Int h.0)).1 h.1 in absurd (cc))

    fit_tells : (k : ℕ) (a : Element) → Decides (is_fit constant k a) (FitsConstant p t K k a)
    fit_tells k a = like (both (small_tells a) (int_by a k (constant k) (known k))) (λ h. record { small = h.0; value = h.1.0; constant = h.1.1; fitting = h.1.2 }) (λ h. (h.small, (h.value, h.constant, h.fitting)))

    module _ (m k : ℕ) where
      left_out : (a r : Element) → cond (is_fit constant k a) (Some a) None ≡ Some r → HasOwnType p t K m k a element.Int r
      left_out a r e = by (is_fit constant k a) (fit_tells k a) e
        where
          by : (b : Bool) → Decides b (FitsConstant p t K k a) → cond b (Some a) None ≡ Some r → HasOwnType p t K m k a element.Int r
          by true d e = subst (HasOwnType p t K m k a element.Int) (same_Some a r e) (HasOwnType.fits_left (d.0 refl))
          by false d e = absurd (none-some r e)

      right_out : (b r : Element) → cond (is_fit constant m b) (Some b) None ≡ Some r → HasOwnType p t K m k element.Int b r
      right_out b r e = by (is_fit constant m b) (fit_tells m b) e
        where
          by : (x : Bool) → Decides x (FitsConstant p t K m b) → cond x (Some b) None ≡ Some r → HasOwnType p t K m k element.Int b r
          by true d e = subst (HasOwnType p t K m k element.Int b) (same_Some b r e) (HasOwnType.fits_right (d.0 refl))
          by false d e = absurd (none-some r e)

      own_out : (a b r : Element) → own_type constant m k a b ≡ Some r → HasOwnType p t K m k a b r
      own_out element.Byte element.Short r e = subst (HasOwnType p t K m k element.Byte element.Short) (same_Some element.Short r e) HasOwnType.byte_short
      own_out element.Short element.Byte r e = subst (HasOwnType p t K m k element.Short element.Byte) (same_Some element.Short r e) HasOwnType.short_byte
      own_out a element.Int r e = left_out a r e
      own_out element.Int b r e = right_out b r e
      own_out _ _ r e = absurd (none-some r e)

      left_into : {a : Element} → IsSmall a → FitsConstant p t K k a → own_type constant m k a element.Int ≡ Some a
      left_into IsSmall.byte w = then_yes (is_fit constant k element.Byte) (Some element.Byte) None (fit_tells k element.Byte) w
      left_into IsSmall.short w = then_yes (is_fit constant k element.Short) (Some element.Short) None (fit_tells k element.Short) w
      left_into IsSmall.char w = then_yes (is_fit constant k element.Char) (Some element.Char) None (fit_tells k element.Char) w

      right_into : {b : Element} → IsSmall b → FitsConstant p t K m b → own_type constant m k element.Int b ≡ Some b
      right_into IsSmall.byte w = then_yes (is_fit constant m element.Byte) (Some element.Byte) None (fit_tells m element.Byte) w
      right_into IsSmall.short w = then_yes (is_fit constant m element.Short) (Some element.Short) None (fit_tells m element.Short) w
      right_into IsSmall.char w = then_yes (is_fit constant m element.Char) (Some element.Char) None (fit_tells m element.Char) w

      own_into : {a b r : Element} → HasOwnType p t K m k a b r → own_type constant m k a b ≡ Some r
      own_into HasOwnType.byte_short = refl
      own_into HasOwnType.short_byte = refl
      own_into (HasOwnType.fits_left w) = left_into w.small w
      own_into (HasOwnType.fits_right w) = right_into w.small w

      own_finds : (a b : Element) → Finds (own_type constant m k a b) (λ r. HasOwnType p t K m k a b r)
      own_finds a b r = (own_out a b r, own_into)

      own_numeric : {a b r : Element} → HasOwnType p t K m k a b r → IsNumeric a × IsNumeric b
      own_numeric HasOwnType.byte_short = (tt, tt)
      own_numeric HasOwnType.short_byte = (tt, tt)
      own_numeric (HasOwnType.fits_left w) = (small_numeric w.small, tt)
      own_numeric (HasOwnType.fits_right w) = (tt, small_numeric w.small)

      int_small : {a : Element} → IsSmall a → a ≡ element.Int → ⊥
      int_small IsSmall.byte e = cc
      int_small IsSmall.short e = cc
      int_small IsSmall.char e = cc

      own_apart : {a b r : Element} → HasOwnType p t K m k a b r → a ≡ b → ⊥
      own_apart HasOwnType.byte_short e = cc
      own_apart HasOwnType.short_byte e = cc
      own_apart (HasOwnType.fits_left w) e = int_small w.small e
      own_apart (HasOwnType.fits_right w) e = int_small w.small (sym e)

      abbrev Number : Element → Element → Element → Type 0
      Number a b r = HasOwnType p t K m k a b r ⊎ (((e : Element) → HasOwnType p t K m k a b e → ⊥) × PromotesBoth a b r)

      or_finds : (a b : Element) (own promoted : Option Element) → Finds own (λ r. HasOwnType p t K m k a b r) → Finds promoted (λ r. PromotesBoth a b r) → Finds (or_promoted own promoted) (λ r. Number a b r)
      or_finds a b (Some x) promoted owns others r = (λ e. inl ((owns r).0 e), ⊎_elim (λ h. (owns r).1 h) (λ h. absurd (h.0 x ((owns x).0 refl))))
      or_finds a b None promoted owns others r = (λ e. inr (λ x h. none-some x ((owns x).1 h), (others r).0 e), ⊎_elim (λ h. absurd (none-some r ((owns r).1 h))) (λ h. (others r).1 h.1))

      number_finds : (a b : Element) → Finds (number_type constant m k a b) (λ r. Number a b r)
      number_finds a b = or_finds a b (own_type constant m k a b) (promoted_both a b) (own_finds a b) (both_finds a b)

      -- ---- types that differ

      null_type_tells : (a : RowType) → Decides (is_plain is_null a) (a ≡ plain element.Null)
      null_type_tells a = is_plain_one element.Null is_null null_tells a

      two_references : (a b : RowType) → Decides (is_reference_type a && is_reference_type b) (IsReferenceType a × IsReferenceType b)
      two_references a b = both (reference_type_tells a) (reference_type_tells b)

      null_left : (a b : RowType) → Decides (is_plain is_null a && is_reference_type b) ((a ≡ plain element.Null) × IsReferenceType b)
      null_left a b = both (null_type_tells a) (reference_type_tells b)

      null_right : (a b : RowType) → Decides (is_reference_type a && is_plain is_null b) (IsReferenceType a × (b ≡ plain element.Null))
      null_right a b = both (reference_type_tells a) (null_type_tells b)

      wider_out : (a b r : RowType) → IsReferenceType a → IsReferenceType b → (x : Bool) → Decides x (Subtype p t a b) → (w : Bool) → Decides w (Subtype p t b a)
          → cond x (Some b) (cond w (Some a) None) ≡ Some r → ConditionalType p t K m k a b r
      wider_out a b r i j true d w g e = subst (ConditionalType p t K m k a b) (same_Some b r e) (ConditionalType.wider_right i j (d.0 refl))
      wider_out a b r i j false d true g e = subst (ConditionalType p t K m k a b) (same_Some a r e) (ConditionalType.wider_left i j (g.0 refl))
      wider_out a b r i j false d false g e = absurd (none-some r e)

      number_out : (a b r : RowType) → (a ≡ b → ⊥) → FromPlain (number_type constant m k) (λ x w z. Number x w z) number_finds a b r → ConditionalType p t K m k a b r
      number_out a b r apart h = subst (λ u. ConditionalType p t K m k u b r) (sym h.3) (subst (λ v. ConditionalType p t K m k (plain h.0) v r) (sym h.4)
          (subst (λ q. ConditionalType p t K m k (plain h.0) (plain h.1) q) h.6 (give h.0 h.1 h.2 (λ e. apart (h.3 ∙ (ap plain e ∙ sym h.4))) h.5)))
        where
          give : (x w z : Element) → (x ≡ w → ⊥) → Number x w z → ConditionalType p t K m k (plain x) (plain w) (plain z)
          give x w z apart (inl o) = ConditionalType.own o
          give x w z apart (inr o) = ConditionalType.numbers apart o.0 o.1

      mixed_out : (a b r : RowType) → (a ≡ b → ⊥) → mixed_type p t constant m k a b ≡ Some r → ConditionalType p t K m k a b r
      mixed_out a b r apart e = by (is_reference_type a && is_reference_type b) (two_references a b) (is_plain is_null a && is_reference_type b) (null_left a b)
          (is_reference_type a && is_plain is_null b) (null_right a b) e
        where
          by : (x : Bool) → Decides x (IsReferenceType a × IsReferenceType b) → (u : Bool) → Decides u ((a ≡ plain element.Null) × IsReferenceType b)
              → (v : Bool) → Decides v (IsReferenceType a × (b ≡ plain element.Null))
              → cond x (wider_type p t a b) (cond u (Some b) (cond v (Some a) (from_plain (number_type constant m k) a b))) ≡ Some r → ConditionalType p t K m k a b r
          by true d u f v g e = let h = d.0 refl in wider_out a b r h.0 h.1 (is_subtype p t a b) (subtype_tells p t typable.headed a b) (is_subtype p t b a) (subtype_tells p t typable.headed b a) e
          by false d true f v g e = let h = f.0 refl in
              subst (ConditionalType p t K m k a b) (same_Some b r e) (subst (λ q. ConditionalType p t K m k q b b) (sym h.0) (ConditionalType.null_left h.1))
          by false d false f true g e = let h = g.0 refl in
              subst (ConditionalType p t K m k a b) (same_Some a r e) (subst (λ q. ConditionalType p t K m k a q a) (sym h.1) (ConditionalType.null_right h.0))
          by false d false f false g e = number_out a b r apart ((from_plain_finds (number_type constant m k) (λ x w z. Number x w z) number_finds a b r).0 e)

      numbers_into : (x w z : Element) → IsNumeric x → IsNumeric w → Number x w z → mixed_type p t constant m k (plain x) (plain w) ≡ Some (plain z)
      numbers_into x w z i j h =
          then_no (is_reference_type (plain x) && is_reference_type (plain w)) (wider_type p t (plain x) (plain w)) _ (two_references (plain x) (plain w)) (λ q. numeric_apart x i q.0)
          ∙ (then_no (is_plain is_null (plain x) && is_reference_type (plain w)) (Some (plain w)) _ (null_left (plain x) (plain w)) (λ q. numeric_apart w j q.1)
          ∙ (then_no (is_reference_type (plain x) && is_plain is_null (plain w)) (Some (plain x)) _ (null_right (plain x) (plain w)) (λ q. numeric_apart x i q.0)
          ∙ ap (option_map plain) ((number_finds x w z).1 h)))

      wider_into : (a b : RowType) → IsReferenceType a → IsReferenceType b → mixed_type p t constant m k a b ≡ wider_type p t a b
      wider_into a b i j = then_yes (is_reference_type a && is_reference_type b) (wider_type p t a b) _ (two_references a b) (i, j)

      null_no_reference : IsReferenceType (plain element.Null) → ⊥
      null_no_reference h = false≢true ((reference_type_tells (plain element.Null)).1 h)

      mixed_into : {a b r : RowType} → (a ≡ b → ⊥) → ConditionalType p t K m k a b r → mixed_type p t constant m k a b ≡ Some r
      mixed_into apart (ConditionalType.same v) = absurd (apart refl)
      mixed_into apart (ConditionalType.own {a = x} {b = w} {r = z} o) = let n = own_numeric o in numbers_into x w z n.0 n.1 (inl o)
      mixed_into apart (ConditionalType.numbers {a = x} {b = w} {r = z} e o h) = let n = both_numeric h in numbers_into x w z n.0 n.1 (inr (o, h))
      mixed_into apart (ConditionalType.null_left {b = b} h) =
          then_no (is_reference_type (plain element.Null) && is_reference_type b) (wider_type p t (plain element.Null) b) _ (two_references (plain element.Null) b) (λ q. null_no_reference q.0)
          ∙ then_yes (is_plain is_null (plain element.Null) && is_reference_type b) (Some b) _ (null_left (plain element.Null) b) (refl, h)
      mixed_into apart (ConditionalType.null_right {a = a} h) =
          then_no (is_reference_type a && is_reference_type (plain element.Null)) (wider_type p t a (plain element.Null)) _ (two_references a (plain element.Null)) (λ q. null_no_reference q.1)
          ∙ (then_no (is_plain is_null a && is_reference_type (plain element.Null)) (Some (plain element.Null)) _ (null_left a (plain element.Null)) (λ q. null_no_reference q.1)
          ∙ then_yes (is_reference_type a && is_plain is_null (plain element.Null)) (Some a) _ (null_right a (plain element.Null)) (h, refl))
      mixed_into apart (ConditionalType.wider_right {a = a} {b = b} i j h) = wider_into a b i j ∙ then_yes (is_subtype p t a b) (Some b) _ (subtype_tells p t typable.headed a b) h
      mixed_into apart (ConditionalType.wider_left {a = a} {b = b} i j h) = wider_into a b i j
          ∙ (then_no (is_subtype p t a b) (Some b) _ (subtype_tells p t typable.headed a b) (λ q. apart (subtypes_one a b i j q h))
          ∙ then_yes (is_subtype p t b a) (Some a) None (subtype_tells p t typable.headed b a) h)

      -- ---- the same type twice

      reference_void : (a : RowType) → IsReferenceType a → a ≡ plain element.Void → ⊥
      reference_void a h e = false≢true ((reference_type_tells (plain element.Void)).1 (subst IsReferenceType e h))

      alike : {a b r : RowType} → ConditionalType p t K m k a b r → a ≡ b → (a ≡ r) × (a ≡ plain element.Void → ⊥)
      alike (ConditionalType.same v) e = (refl, v)
      alike (ConditionalType.own o) e = absurd (own_apart o (ap (λ x. x.element) e))
      alike (ConditionalType.numbers apart o h) e = absurd (apart (ap (λ x. x.element) e))
      alike (ConditionalType.null_left h) e = absurd (null_no_reference (subst IsReferenceType (sym e) h))
      alike (ConditionalType.null_right h) e = absurd (null_no_reference (subst IsReferenceType e h))
      alike (ConditionalType.wider_right {a = a} i j h) e = (e, reference_void a i)
      alike (ConditionalType.wider_left {a = a} i j h) e = (refl, reference_void a i)

      void_type_tells : (a : RowType) → Decides (is_plain is_void a) (a ≡ plain element.Void)
      void_type_tells a = is_plain_one element.Void is_void void_tells a

      pub conditional_finds : (a b : RowType) → Finds (conditional_type p t constant m k a b) (λ r. ConditionalType p t K m k a b r)
      conditional_finds a b r = (
        by (same_type a b) (type_tells a b) (is_plain is_void a) (void_type_tells a),
        λ h. ⊎_elim
            (λ e. let q = alike h e in then_yes (same_type a b) (cond (is_plain is_void a) None (Some a)) _ (type_tells a b) e
            ∙ (then_no (is_plain is_void a) None (Some a) (void_type_tells a) q.1 ∙ ap Some q.0))
            (λ apart. then_no (same_type a b) (cond (is_plain is_void a) None (Some a)) _ (type_tells a b) apart ∙ mixed_into apart h)
            (decide (type_tells a b)),
      )
        where
          by : (x : Bool) → Decides x (a ≡ b) → (v : Bool) → Decides v (a ≡ plain element.Void) → cond x (cond v None (Some a)) (mixed_type p t constant m k a b) ≡ Some r → ConditionalType p t K m k a b r
          by true d true g e = absurd (none-some r e)
          by true d false g e = subst (ConditionalType p t K m k a b) (same_Some a r e) (subst (λ q. ConditionalType p t K m k a q a) (d.0 refl) (ConditionalType.same (λ q. false≢true (g.1 q))))
          by false d v g e = mixed_out a b r (λ q. false≢true (d.1 q)) e
