-- The types that operators give are those that are computed.
use Rattle.std.proofs.Common.{◌≡◌, ◌⊎◌, refl, sym, ◌∙◌, ap, ap₂, subst, inl, inr, ⊎_elim, ℕ, zero, Bool, true, false, cond, not, ◌&&◌, length, Option, Some, None, option_map, Decides}
use Rattle.std.proofs.lemmas.Bool.{false≢true}
use Rattle.std.proofs.lemmas.Option.{none-some, same_Some}
use Rattle.jr_base.specs.declared.kind.Kind.{Kind}
use Rattle.jr_base.specs.declared.kind.Kind.TheVariants as token
use Rattle.jr_base.specs.declared.kind.Keyword.TheVariants as word
use Rattle.jr_base.specs.declared.kind.Symbol.{Symbol}
use Rattle.jr_base.specs.declared.kind.Symbol.TheVariants as y
use Rattle.jr_tree.specs.Rows.{Rows}
use Rattle.jr_defs.specs.declared.referent.Element.{Element}
use Rattle.jr_defs.specs.declared.referent.Element.TheVariants as element
use Rattle.jr_defs.specs.declared.referent.RowType.{RowType}
use Rattle.jr_defs.specs.Referents.{Table}
use Rattle.jr_defs.specs.Declarations.{IsString}
use Rattle.jr_defs.specs.Types.{plain, class_type}
use Rattle.jr_defs.specs.Supertypes.{IsReferenceType}
use Rattle.jr_defs.specs.Conversions.{IsIntegral, IsNumeric, IsPrimitive, Promotes, PromotesBoth, IsReferenceOrNull, IsCastable}
use Rattle.jr_defs.specs.Typing.{LiteralType, OperatorClass, plus, arithmetic, shift, comparison, equality, bitwise, logical, other, class_of, IsComparable, BinaryType, UnaryType, CompoundType}
use Rattle.jr_plain.specs.Search.{first_below, Finds}
use Rattle.jr_plain.specs.Declarations.{is_string}
use Rattle.jr_plain.specs.Supertypes.{is_reference}
use Rattle.jr_plain.specs.Conversions.{is_boolean, is_void, is_numeric, is_primitive, promoted_type, promoted_both, plain_of, is_plain}
use Rattle.jr_plain.specs.Typing.{IsTypable, literal_type, is_string_element, is_string_type, is_comparable, of_plain, from_plain, shift_type, comparison_type, logical_type, bitwise_type, sum_type, binary_type, unary_type, is_plus, is_cast_back, is_compound}
use Rattle.jr_plain.proofs.Tests.{never, both, either, opposite, like, decide}
use Rattle.jr_plain.proofs.Searches.{finds}
use Rattle.jr_plain.proofs.Same.{type_tells}
use Rattle.jr_plain.proofs.Bounds.{type_below}
use Rattle.jr_plain.proofs.Declared.{string_tells}
use Rattle.jr_plain.proofs.Supertyped.{reference_type_tells}
use Rattle.jr_plain.proofs.Converted.{then_yes, then_no, boolean_tells, void_tells, numeric_tells, primitive_tells, promoted_finds, both_finds, plain_finds, is_plain_tells, is_plain_one, reference_or_null_tells, castable_tells}
use Rattle.jr_plain.proofs.Finding.{some_finds, guard_finds, map_finds}

-- ---- two plain types

module _ (f : Element → Element → Option Element) (F : Element → Element → Element → Type 0) (finds_f : (a b : Element) → Finds (f a b) (λ r. F a b r)) where
  abbrev pub FromPlain : RowType → RowType → RowType → Type 0
  FromPlain a b r = (x : Element) × (w : Element) × (z : Element) × (a ≡ plain x) × (b ≡ plain w) × F x w z × (plain z ≡ r)

  of_plain_out : (a b r : RowType) (x w : Option Element) → Finds x (λ e. a ≡ plain e) → Finds w (λ e. b ≡ plain e) → of_plain f x w ≡ Some r → FromPlain a b r
  of_plain_out a b r (Some x) (Some w) i j e = let h = (map_finds plain (f x w) (finds_f x w) r).0 e in (x, w, h.0, (i x).0 refl, (j w).0 refl, h.1, h.2)
  of_plain_out a b r (Some x) None i j e = absurd (none-some r e)
  of_plain_out a b r None _ i j e = absurd (none-some r e)

  pub from_plain_finds : (a b : RowType) → Finds (from_plain f a b) (λ r. FromPlain a b r)
  from_plain_finds a b r = (
    of_plain_out a b r (plain_of a) (plain_of b) (plain_finds a) (plain_finds b),
    λ h. ap₂ (from_plain f) h.3 h.4 ∙ (ap (option_map plain) ((finds_f h.0 h.1 h.2).1 h.5) ∙ ap Some h.6),
  )

  pub plain_out : (B : RowType → RowType → RowType → Type 0) → ((x w z : Element) → F x w z → B (plain x) (plain w) (plain z)) → (a b r : RowType) → FromPlain a b r → B a b r
  plain_out B give a b r h = subst (λ u. B u b r) (sym h.3) (subst (λ v. B (plain h.0) v r) (sym h.4) (subst (λ q. B (plain h.0) (plain h.1) q) h.6 (give h.0 h.1 h.2 h.5)))

shift_finds : (a b : Element) → Finds (shift_type a b) (λ r. IsNumeric b × Promotes a r)
shift_finds a b = guard_finds (is_numeric b) (promoted_type a) (numeric_tells b) (promoted_finds a)

comparison_finds : (a b : Element) → Finds (comparison_type a b) (λ r. (IsNumeric a × IsNumeric b) × (element.Boolean ≡ r))
comparison_finds a b = guard_finds (is_numeric a && is_numeric b) (Some element.Boolean) (both (numeric_tells a) (numeric_tells b)) (some_finds element.Boolean)

logical_finds : (a b : Element) → Finds (logical_type a b) (λ r. ((a ≡ element.Boolean) × (b ≡ element.Boolean)) × (element.Boolean ≡ r))
logical_finds a b = guard_finds (is_boolean a && is_boolean b) (Some element.Boolean) (both (boolean_tells a) (boolean_tells b)) (some_finds element.Boolean)

-- two booleans, or two numbers
abbrev Bitwise : Element → Element → Element → Type 0
Bitwise a b r = (((a ≡ element.Boolean) × (b ≡ element.Boolean)) × (element.Boolean ≡ r)) ⊎ PromotesBoth a b r

integral_numeric : (e : Element) → IsIntegral e → IsNumeric e
integral_numeric element.Byte h = tt
integral_numeric element.Short h = tt
integral_numeric element.Char h = tt
integral_numeric element.Int h = tt
integral_numeric element.Long h = tt
integral_numeric _ h = h

pub both_numeric : {a b r : Element} → PromotesBoth a b r → IsNumeric a × IsNumeric b
both_numeric (PromotesBoth.int {a = a} {b = b} i j) = (integral_numeric a i, integral_numeric b j)
both_numeric (PromotesBoth.left h) = (tt, h)
both_numeric (PromotesBoth.right h) = (h, tt)

bitwise_finds : (a b : Element) → Finds (bitwise_type a b) (λ r. Bitwise a b r)
bitwise_finds a b r = (by (is_boolean a && is_boolean b) (both (boolean_tells a) (boolean_tells b)), into)
  where
    by : (x : Bool) → Decides x ((a ≡ element.Boolean) × (b ≡ element.Boolean)) → cond x (Some element.Boolean) (promoted_both a b) ≡ Some r → Bitwise a b r
    by true d e = inl (d.0 refl, same_Some element.Boolean r e)
    by false d e = inr ((both_finds a b r).0 e)

    into : Bitwise a b r → bitwise_type a b ≡ Some r
    into (inl h) = then_yes (is_boolean a && is_boolean b) (Some element.Boolean) (promoted_both a b) (both (boolean_tells a) (boolean_tells b)) h.0 ∙ ap Some h.1
    into (inr h) = then_no (is_boolean a && is_boolean b) (Some element.Boolean) (promoted_both a b) (both (boolean_tells a) (boolean_tells b))
        (λ k. subst IsNumeric k.0 (both_numeric h).0) ∙ (both_finds a b r).1 h

-- ---- one operand

pub unary_finds : (op : Symbol) (a : Element) → Finds (unary_type op a) (λ r. UnaryType op a r)
unary_finds op a r = (out op, into)
  where
    out : (op : Symbol) → unary_type op a ≡ Some r → UnaryType op a r
    out y.Plus e = UnaryType.plus_sign ((promoted_finds a r).0 e)
    out y.Minus e = UnaryType.minus_sign ((promoted_finds a r).0 e)
    out y.Tilde e = UnaryType.complement ((promoted_finds a r).0 e)
    out y.Not e = let h = (guard_finds (is_boolean a) (Some element.Boolean) (boolean_tells a) (some_finds element.Boolean) r).0 e in
        subst (λ x. UnaryType y.Not x r) (sym h.0) (subst (UnaryType y.Not element.Boolean) h.1 UnaryType.negation)
    out _ e = absurd (none-some r e)

    into : {op : Symbol} {a r : Element} → UnaryType op a r → unary_type op a ≡ Some r
    into (UnaryType.plus_sign {a = a} {r = r} h) = (promoted_finds a r).1 h
    into (UnaryType.minus_sign {a = a} {r = r} h) = (promoted_finds a r).1 h
    into (UnaryType.complement {a = a} {r = r} h) = (promoted_finds a r).1 h
    into UnaryType.negation = refl

-- a number is no reference
pub numeric_apart : (a : Element) → IsNumeric a → IsReferenceType (plain a) → ⊥
numeric_apart (element.Class s) n h = n
numeric_apart a n h = by a n ((reference_type_tells (plain a)).1 h)
  where
    by : (a : Element) → IsNumeric a → is_reference zero a ≡ true → ⊥
    by (element.Class s) n h = n
    by _ n h = false≢true h

-- ---- strings

module _ (p : Rows) where
  abbrev pub StringType : RowType → Type 0
  StringType a = (s : ℕ) × (a ≡ class_type s) × IsString p s

  string_element_tells : (e : Element) → Decides (is_string_element p e) ((s : ℕ) × (e ≡ element.Class s) × IsString p s)
  string_element_tells (element.Class s) = like (string_tells p s) (λ h. (s, refl, h)) (λ h. let e = h.1 in subst (λ x. IsString p x) (sym (row_of e)) h.2)
    where
      row_of : {a b : ℕ} → element.Class a ≡ element.Class b → a ≡ b
      row_of e = cc
  string_element_tells _ = (λ h. absurd (false≢true h), λ h. let e = h.1 in absurd (cc))

  pub string_type_tells : (a : RowType) → Decides (is_string_type p a) (StringType a)
  string_type_tells a = like (is_plain_tells (λ e. (s : ℕ) × (e ≡ element.Class s) × IsString p s) (is_string_element p) string_element_tells a)
      (λ h. (h.2.0, h.1 ∙ ap plain h.2.1, h.2.2)) (λ h. (element.Class h.0, h.1, (h.0, refl, h.2)))

  not_void : (a : RowType) → Decides (not (is_plain is_void a)) (a ≡ plain element.Void → ⊥)
  not_void a = opposite (is_plain_one element.Void is_void void_tells a)

  string_apart : (a : Element) → IsNumeric a → StringType (plain a) → ⊥
  string_apart a n h = numeric_apart a n (subst IsReferenceType (sym h.1) IsReferenceType.class)

module _ (p : Rows) (one_string : (s d : ℕ) → IsString p s → IsString p d → s ≡ d) where
  string_row : Finds (first_below (length p) (is_string p)) (λ s. IsString p s)
  string_row = finds (is_string p) (λ s. IsString p s) (string_tells p) (length p) (λ s h. type_below p s h.type) one_string

  literal_out : (token : Kind) (a : RowType) → literal_type p token ≡ Some a → LiteralType p token a
  literal_out (token.Int z) a e = subst (LiteralType p (token.Int z)) (same_Some _ a e) LiteralType.int
  literal_out token.IntMin a e = subst (LiteralType p token.IntMin) (same_Some _ a e) LiteralType.least_int
  literal_out (token.Long z) a e = subst (LiteralType p (token.Long z)) (same_Some _ a e) LiteralType.long
  literal_out token.LongMin a e = subst (LiteralType p token.LongMin) (same_Some _ a e) LiteralType.least_long
  literal_out (token.Char n) a e = subst (LiteralType p (token.Char n)) (same_Some _ a e) LiteralType.char
  literal_out (token.Str units) a e = let h = (map_finds class_type (first_below (length p) (is_string p)) string_row a).0 e in subst (LiteralType p (token.Str units)) h.2 (LiteralType.string h.1)
  literal_out (token.Word word.True) a e = subst (LiteralType p (token.Word word.True)) (same_Some _ a e) LiteralType.yes_word
  literal_out (token.Word word.False) a e = subst (LiteralType p (token.Word word.False)) (same_Some _ a e) LiteralType.no_word
  literal_out (token.Word word.Null) a e = subst (LiteralType p (token.Word word.Null)) (same_Some _ a e) LiteralType.null
  literal_out _ a e = absurd (none-some a e)

  literal_into : {token : Kind} {a : RowType} → LiteralType p token a → literal_type p token ≡ Some a
  literal_into LiteralType.int = refl
  literal_into LiteralType.least_int = refl
  literal_into LiteralType.long = refl
  literal_into LiteralType.least_long = refl
  literal_into LiteralType.char = refl
  literal_into (LiteralType.string {s = s} h) = ap (option_map class_type) ((string_row s).1 h)
  literal_into LiteralType.yes_word = refl
  literal_into LiteralType.no_word = refl
  literal_into LiteralType.null = refl

  pub literal_finds : (token : Kind) → Finds (literal_type p token) (λ a. LiteralType p token a)
  literal_finds token a = (literal_out token a, literal_into)

module _ (p : Rows) (t : Table) (typable : IsTypable p t) where
  -- ---- two operands

  abbrev Comparable : RowType → RowType → Type 0
  Comparable a b = ((((x : Element) × (a ≡ plain x) × IsNumeric x) × ((w : Element) × (b ≡ plain w) × IsNumeric w)) ⊎ ((a ≡ plain element.Boolean) × (b ≡ plain element.Boolean)))
      ⊎ ((IsReferenceOrNull a × IsReferenceOrNull b) × (IsCastable p t a b ⊎ IsCastable p t b a ⊎ (a ≡ b)))

  comparable_tells : (a b : RowType) → Decides (is_comparable p t a b) (IsComparable p t a b)
  comparable_tells a b = like (either (either
      (both (is_plain_tells IsNumeric is_numeric numeric_tells a) (is_plain_tells IsNumeric is_numeric numeric_tells b))
      (both (is_plain_one element.Boolean is_boolean boolean_tells a) (is_plain_one element.Boolean is_boolean boolean_tells b)))
      (both (both (reference_or_null_tells a) (reference_or_null_tells b))
      (either (castable_tells p t typable.headed a b) (either (castable_tells p t typable.headed b a) (type_tells a b))))) out into
    where
      out : Comparable a b → IsComparable p t a b
      out (inl (inl h)) = subst (λ x. IsComparable p t x b) (sym h.0.1) (subst (λ x. IsComparable p t (plain h.0.0) x) (sym h.1.1) (IsComparable.numbers h.0.2 h.1.2))
      out (inl (inr h)) = subst (λ x. IsComparable p t x b) (sym h.0) (subst (λ x. IsComparable p t (plain element.Boolean) x) (sym h.1) IsComparable.booleans)
      out (inr h) = IsComparable.references h.0.0 h.0.1 h.1

      into : {a b : RowType} → IsComparable p t a b → Comparable a b
      into (IsComparable.numbers {a = x} {b = w} i j) = inl (inl ((x, refl, i), (w, refl, j)))
      into IsComparable.booleans = inl (inr (refl, refl))
      into (IsComparable.references i j h) = inr ((i, j), h)

  abbrev Text : RowType → RowType → Type 0
  Text a b = StringType p a × (b ≡ plain element.Void → ⊥)

  text_tells : (a b : RowType) → Decides (is_string_type p a && not (is_plain is_void b)) (Text a b)
  text_tells a b = both (string_type_tells p a) (not_void p b)

  sum_out : (a b r : RowType) (x : Bool) → Decides x (Text a b) → (w : Bool) → Decides w (Text b a) → cond x (Some a) (cond w (Some b) (from_plain promoted_both a b)) ≡ Some r → BinaryType p t plus a b r
  sum_out a b r true d w k e = let h = d.0 refl in let is = h.0.1 in
      subst (BinaryType p t plus a b) (sym is ∙ same_Some a r e) (subst (λ u. BinaryType p t plus u b (class_type h.0.0)) (sym is) (BinaryType.text_left h.0.2 h.1))
  sum_out a b r false d true k e = let h = k.0 refl in let is = h.0.1 in
      subst (BinaryType p t plus a b) (sym is ∙ same_Some b r e) (subst (λ u. BinaryType p t plus a u (class_type h.0.0)) (sym is) (BinaryType.text_right h.0.2 h.1))
  sum_out a b r false d false k e = plain_out promoted_both (λ x w z. PromotesBoth x w z) both_finds (λ u v q. BinaryType p t plus u v q) (λ x w z h. BinaryType.sum h) a b r
      ((from_plain_finds promoted_both (λ x w z. PromotesBoth x w z) both_finds a b r).0 e)

  right_text : (a : RowType) (s : ℕ) → IsString p s → (a ≡ plain element.Void → ⊥) → sum_type p a (class_type s) ≡ Some (class_type s)
  right_text a s h v = ⊎_elim
      (λ k. then_yes (is_string_type p a && not (is_plain is_void (class_type s))) (Some a) _ (text_tells a (class_type s)) k
      ∙ ap Some (k.0.1 ∙ ap class_type (typable.one_string k.0.0 s k.0.2 h)))
      (λ n. then_no (is_string_type p a && not (is_plain is_void (class_type s))) (Some a) _ (text_tells a (class_type s)) n
      ∙ then_yes (is_string_type p (class_type s) && not (is_plain is_void a)) (Some (class_type s)) _ (text_tells (class_type s) a) ((s, refl, h), v))
      (decide (text_tells a (class_type s)))

  sum_into : {a b r : RowType} → BinaryType p t plus a b r → sum_type p a b ≡ Some r
  sum_into (BinaryType.sum {a = a} {b = b} {r = r} h) = let n = both_numeric h in
      then_no (is_string_type p (plain a) && not (is_plain is_void (plain b))) (Some (plain a)) _ (text_tells (plain a) (plain b)) (λ k. string_apart p a n.0 k.0)
      ∙ (then_no (is_string_type p (plain b) && not (is_plain is_void (plain a))) (Some (plain b)) _ (text_tells (plain b) (plain a)) (λ k. string_apart p b n.1 k.0)
      ∙ ap (option_map plain) ((both_finds a b r).1 h))
  sum_into (BinaryType.text_left {s = s} {b = b} h v) = then_yes (is_string_type p (class_type s) && not (is_plain is_void b)) (Some (class_type s)) _ (text_tells (class_type s) b) ((s, refl, h), v)
  sum_into (BinaryType.text_right {s = s} {a = a} h v) = right_text a s h v

  binary_out : (k : OperatorClass) (a b r : RowType) → binary_type p t k a b ≡ Some r → BinaryType p t k a b r
  binary_out plus a b r e = sum_out a b r (is_string_type p a && not (is_plain is_void b)) (text_tells a b) (is_string_type p b && not (is_plain is_void a)) (text_tells b a) e
  binary_out arithmetic a b r e = plain_out promoted_both (λ x w z. PromotesBoth x w z) both_finds (λ u v q. BinaryType p t arithmetic u v q) (λ x w z h. BinaryType.number h) a b r
      ((from_plain_finds promoted_both (λ x w z. PromotesBoth x w z) both_finds a b r).0 e)
  binary_out shift a b r e = plain_out shift_type (λ x w z. IsNumeric w × Promotes x z) shift_finds (λ u v q. BinaryType p t shift u v q) (λ x w z h. BinaryType.shifted h.1 h.0) a b r
      ((from_plain_finds shift_type (λ x w z. IsNumeric w × Promotes x z) shift_finds a b r).0 e)
  binary_out comparison a b r e = plain_out comparison_type (λ x w z. (IsNumeric x × IsNumeric w) × (element.Boolean ≡ z)) comparison_finds (λ u v q. BinaryType p t comparison u v q)
      (λ x w z h. subst (λ q. BinaryType p t comparison (plain x) (plain w) (plain q)) h.1 (BinaryType.compared h.0.0 h.0.1)) a b r
      ((from_plain_finds comparison_type (λ x w z. (IsNumeric x × IsNumeric w) × (element.Boolean ≡ z)) comparison_finds a b r).0 e)
  binary_out equality a b r e = let h = (guard_finds (is_comparable p t a b) (Some (plain element.Boolean)) (comparable_tells a b) (some_finds (plain element.Boolean)) r).0 e in
      subst (BinaryType p t equality a b) h.1 (BinaryType.equated h.0)
  binary_out bitwise a b r e = plain_out bitwise_type Bitwise bitwise_finds (λ u v q. BinaryType p t bitwise u v q) give a b r ((from_plain_finds bitwise_type Bitwise bitwise_finds a b r).0 e)
    where
      give : (x w z : Element) → Bitwise x w z → BinaryType p t bitwise (plain x) (plain w) (plain z)
      give x w z (inl h) = subst (λ q. BinaryType p t bitwise (plain x) (plain w) (plain q)) h.1 (subst (λ q. BinaryType p t bitwise (plain q) (plain w) (plain element.Boolean)) (sym h.0.0)
          (subst (λ q. BinaryType p t bitwise (plain element.Boolean) (plain q) (plain element.Boolean)) (sym h.0.1) BinaryType.booleans))
      give x w z (inr h) = BinaryType.bits h
  binary_out logical a b r e = plain_out logical_type (λ x w z. ((x ≡ element.Boolean) × (w ≡ element.Boolean)) × (element.Boolean ≡ z)) logical_finds (λ u v q. BinaryType p t logical u v q)
      (λ x w z h. subst (λ q. BinaryType p t logical (plain x) (plain w) (plain q)) h.1 (subst (λ q. BinaryType p t logical (plain q) (plain w) (plain element.Boolean)) (sym h.0.0)
      (subst (λ q. BinaryType p t logical (plain element.Boolean) (plain q) (plain element.Boolean)) (sym h.0.1) BinaryType.tests))) a b r
      ((from_plain_finds logical_type (λ x w z. ((x ≡ element.Boolean) × (w ≡ element.Boolean)) × (element.Boolean ≡ z)) logical_finds a b r).0 e)
  binary_out other a b r e = absurd (none-some r e)

  binary_into : {k : OperatorClass} {a b r : RowType} → BinaryType p t k a b r → binary_type p t k a b ≡ Some r
  binary_into (BinaryType.sum h) = sum_into (BinaryType.sum h)
  binary_into (BinaryType.text_left h v) = sum_into (BinaryType.text_left h v)
  binary_into (BinaryType.text_right h v) = sum_into (BinaryType.text_right h v)
  binary_into (BinaryType.number {a = a} {b = b} {r = r} h) = ap (option_map plain) ((both_finds a b r).1 h)
  binary_into (BinaryType.shifted {a = a} {b = b} {r = r} h n) = ap (option_map plain) ((shift_finds a b r).1 (n, h))
  binary_into (BinaryType.compared {a = a} {b = b} i j) = ap (option_map plain) ((comparison_finds a b element.Boolean).1 ((i, j), refl))
  binary_into (BinaryType.equated {a = a} {b = b} h) = then_yes (is_comparable p t a b) (Some (plain element.Boolean)) None (comparable_tells a b) h
  binary_into (BinaryType.bits {a = a} {b = b} {r = r} h) = ap (option_map plain) ((bitwise_finds a b r).1 (inr h))
  binary_into BinaryType.booleans = refl
  binary_into BinaryType.tests = refl

  pub binary_finds : (k : OperatorClass) (a b : RowType) → Finds (binary_type p t k a b) (λ r. BinaryType p t k a b r)
  binary_finds k a b r = (binary_out k a b r, binary_into)

  -- ---- compound assignment

  binary_plain : {k : OperatorClass} {a b r : RowType} → BinaryType p t k a b r → (z : Element) × (r ≡ plain z)
  binary_plain (BinaryType.sum {r = r} h) = (r, refl)
  binary_plain (BinaryType.text_left {s = s} h v) = (element.Class s, refl)
  binary_plain (BinaryType.text_right {s = s} h v) = (element.Class s, refl)
  binary_plain (BinaryType.number {r = r} h) = (r, refl)
  binary_plain (BinaryType.shifted {r = r} h n) = (r, refl)
  binary_plain (BinaryType.compared i j) = (element.Boolean, refl)
  binary_plain (BinaryType.equated h) = (element.Boolean, refl)
  binary_plain (BinaryType.bits {r = r} h) = (r, refl)
  binary_plain BinaryType.booleans = (element.Boolean, refl)
  binary_plain BinaryType.tests = (element.Boolean, refl)

  plus_tells : (op : Symbol) → Decides (is_plus op) (op ≡ y.Plus)
  plus_tells y.Plus = (λ h. refl, λ e. refl)
  plus_tells _ = (λ h. absurd (false≢true h), λ e. absurd (cc))

  cast_back_tells : (k : OperatorClass) (a b : RowType) (found : Option RowType) → Finds found (λ r. BinaryType p t k a b r)
      → Decides (is_cast_back p t a found) ((r : RowType) × BinaryType p t k a b r × IsCastable p t r a)
  cast_back_tells k a b None known = like never (λ h. absurd h) (λ h. none-some h.0 ((known h.0).1 h.1))
  cast_back_tells k a b (Some r) known = like (castable_tells p t typable.headed r a) (λ h. (r, (known r).0 refl, h))
      (λ h. subst (λ x. IsCastable p t x a) (sym (same_Some r h.0 ((known h.0).1 h.1))) h.2)

  abbrev Compound : Symbol → RowType → RowType → Type 0
  Compound op a b = (((op ≡ y.Plus) × StringType p a) × (b ≡ plain element.Void → ⊥))
      ⊎ ((((x : Element) × (a ≡ plain x) × IsPrimitive x) × ((w : Element) × (b ≡ plain w) × IsPrimitive w)) × ((r : RowType) × BinaryType p t (class_of op) a b r × IsCastable p t r a))

  compound_out : (op : Symbol) (a b : RowType) → Compound op a b → CompoundType p t op a b
  compound_out op a b (inl h) = subst (λ x. CompoundType p t op x b) (sym h.0.1.1) (CompoundType.text h.0.0 h.0.1.2 h.1)
  compound_out op a b (inr h) =
      let z = binary_plain h.1.1 in
      let whole : BinaryType p t (class_of op) (plain h.0.0.0) (plain h.0.1.0) (plain z.0) =
      subst (λ x. BinaryType p t (class_of op) (plain h.0.0.0) (plain h.0.1.0) x) z.1 (subst (λ x. BinaryType p t (class_of op) (plain h.0.0.0) x h.1.0) h.0.1.1 (subst (λ x. BinaryType p t (class_of op) x b h.1.0) h.0.0.1 h.1.1)) in
      let back : IsCastable p t (plain z.0) (plain h.0.0.0) = subst (λ x. IsCastable p t x (plain h.0.0.0)) z.1 (subst (λ x. IsCastable p t h.1.0 x) h.0.0.1 h.1.2) in
      subst (λ x. CompoundType p t op x b) (sym h.0.0.1) (subst (λ x. CompoundType p t op (plain h.0.0.0) x) (sym h.0.1.1) (CompoundType.primitive h.0.0.2 h.0.1.2 whole back))

  compound_into : {op : Symbol} {a b : RowType} → CompoundType p t op a b → Compound op a b
  compound_into (CompoundType.text {s = s} e h v) = inl ((e, (s, refl, h)), v)
  compound_into (CompoundType.primitive {a = a} {b = b} {r = r} i j h k) = inr (((a, refl, i), (b, refl, j)), (plain r, h, k))

  pub compound_tells : (op : Symbol) (a b : RowType) → Decides (is_compound p t op a b) (CompoundType p t op a b)
  compound_tells op a b = like (either (both (both (plus_tells op) (string_type_tells p a)) (not_void p b))
      (both (both (is_plain_tells IsPrimitive is_primitive primitive_tells a) (is_plain_tells IsPrimitive is_primitive primitive_tells b))
      (cast_back_tells (class_of op) a b (binary_type p t (class_of op) a b) (binary_finds (class_of op) a b)))) (compound_out op a b) compound_into
