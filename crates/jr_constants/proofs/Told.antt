-- What holds of values with the numbers of their strings holds of them with the strings.
use Rattle.std.proofs.Common.{◌≡◌, refl, sym, ◌∙◌, ap, ap₂, subst, inl, inr, ℕ, zero, suc, Bool, true, false, cond, List, [], ◌∷◌, Option, Some, None, ◌⊎◌, slice_get}
use Rattle.std.proofs.lemmas.Bool.{false≢true}
use Rattle.std.proofs.lemmas.Option.{none-some}
use Rattle.std.specs.Prelude.{ℤ, ◌||◌, option_and_then}
use Rattle.std.specs.Int.{Width, w32, w64}
use Rattle.jr_base.specs.declared.kind.Symbol.{Symbol}
use Rattle.jr_base.specs.declared.kind.Symbol.TheVariants as y
use Rattle.jr_base.specs.declared.constant.Const.{Const}
use Rattle.jr_base.specs.declared.constant.Const.TheVariants as c
use Rattle.jr_tree.specs.Rows.{Rows}
use Rattle.jr_defs.specs.declared.referent.Element.{Element}
use Rattle.jr_defs.specs.declared.referent.Element.TheVariants as element
use Rattle.jr_defs.specs.declared.referent.RowType.{RowType}
use Rattle.jr_defs.specs.Operators.{as_int, as_long, number_to, then_number, cast_to, assigned_to, if_fits, fits, negated, complemented, promoted, denied, unary_value, is_zero, number_value, shift_value, bool_value, is_shift, two_numbers, shift_of, numbers_value, binary_value, common, converted, chosen}
use Rattle.jr_plain.specs.Declarations.{is_string}
use Rattle.jr_plain.specs.Conversions.{of_two}
use Rattle.jr_plain.specs.Constants.{Conversion, or_value, text_as, value_as, converted_as, chosen_value}
use Rattle.jr_constants.specs.declared.value.Value.{Value}
use Rattle.jr_constants.specs.declared.value.Value.TheVariants as v
use Rattle.jr_constants.specs.Values.{seen, seen_if, value_in, value_in_if, text_at, is_text, has_text}
use Rattle.jr_constants.specs.Tables.{IsIn, IsInIf}

-- ---- values that are no strings

abbrev pub is_str : Option Const → Bool
is_str (Some (c.Str units)) = true
is_str _ = false

-- what is seen is no string, so it is the value
pub as_seen : (texts : List (List ℕ)) (found : Option Value) (o : Option Const) → seen_if found ≡ o → is_str o ≡ false → (value_in_if texts found ≡ o) × IsInIf texts found
as_seen texts None o h e = (h, tt)
as_seen texts (Some (v.Str m)) o h e = absurd (false≢true (sym e ∙ sym (ap is_str h)))
as_seen texts (Some (v.Bool x)) o h e = (h, tt)
as_seen texts (Some (v.Byte x)) o h e = (h, tt)
as_seen texts (Some (v.Short x)) o h e = (h, tt)
as_seen texts (Some (v.Char x)) o h e = (h, tt)
as_seen texts (Some (v.Int x)) o h e = (h, tt)
as_seen texts (Some (v.Long x)) o h e = (h, tt)

pub plain_seen : (texts : List (List ℕ)) (value : Value) → is_text value ≡ false → value_in texts value ≡ seen value
plain_seen texts (v.Str m) h = absurd (false≢true (sym h))
plain_seen texts (v.Bool x) h = refl
plain_seen texts (v.Byte x) h = refl
plain_seen texts (v.Short x) h = refl
plain_seen texts (v.Char x) h = refl
plain_seen texts (v.Int x) h = refl
plain_seen texts (v.Long x) h = refl

text_number : (k m : ℕ) → Some (c.Str (k ∷ [])) ≡ Some (c.Str (m ∷ [])) → k ≡ m
text_number k m h = cc

seen_text : (found : Option Value) (m : ℕ) → seen_if found ≡ Some (c.Str (m ∷ [])) → found ≡ Some (v.Str m)
seen_text None m h = absurd (none-some (c.Str (m ∷ [])) h)
seen_text (Some (v.Str k)) m h = ap (λ x. Some (v.Str x)) (text_number k m h)
seen_text (Some (v.Bool x)) m h = absurd (false≢true (ap is_str h))
seen_text (Some (v.Byte x)) m h = absurd (false≢true (ap is_str h))
seen_text (Some (v.Short x)) m h = absurd (false≢true (ap is_str h))
seen_text (Some (v.Char x)) m h = absurd (false≢true (ap is_str h))
seen_text (Some (v.Int x)) m h = absurd (false≢true (ap is_str h))
seen_text (Some (v.Long x)) m h = absurd (false≢true (ap is_str h))

seen_none : (found : Option Value) → seen_if found ≡ None → found ≡ None
seen_none None h = refl
seen_none (Some value) h = absurd (none-some (seen value) (sym h))

-- ---- functions that keep strings as they are, or have no value for them

abbrev Keeps : (Const → Option Const) → Type 0
Keeps f = ((a : List ℕ) → f (c.Str a) ≡ None) ⊎ ((a : List ℕ) → f (c.Str a) ≡ Some (c.Str a))

abbrev IsPlain : (Const → Option Const) → Type 0
IsPlain f = (w : Const) → is_str (Some w) ≡ false → is_str (f w) ≡ false

text_tells : (f : Const → Option Const) → Keeps f → (texts : List (List ℕ)) (m : ℕ) (found : Option Value) → seen_if found ≡ f (c.Str (m ∷ []))
    → (value_in_if texts found ≡ f (value_in texts (v.Str m))) × (IsIn texts (v.Str m) → IsInIf texts found)
text_tells f (inl none) texts m found h = let e = seen_none found (h ∙ none (m ∷ [])) in
    (ap (value_in_if texts) e ∙ sym (none (text_at (slice_get texts m))), λ lt. subst (IsInIf texts) (sym e) tt)
text_tells f (inr same) texts m found h = let e = seen_text found m (h ∙ same (m ∷ [])) in
    (ap (value_in_if texts) e ∙ sym (same (text_at (slice_get texts m))), λ lt. subst (IsInIf texts) (sym e) lt)

pub kept : (f : Const → Option Const) → IsPlain f → Keeps f → (texts : List (List ℕ)) (value : Value) (found : Option Value) → seen_if found ≡ f (seen value)
    → (value_in_if texts found ≡ f (value_in texts value)) × (IsIn texts value → IsInIf texts found)
kept f plain keeps texts (v.Str m) found h = text_tells f keeps texts m found h
kept f plain keeps texts (v.Bool x) found h = let q = as_seen texts found (f (c.Bool x)) h (plain (c.Bool x) refl) in (q.0, λ u. q.1)
kept f plain keeps texts (v.Byte x) found h = let q = as_seen texts found (f (c.Byte x)) h (plain (c.Byte x) refl) in (q.0, λ u. q.1)
kept f plain keeps texts (v.Short x) found h = let q = as_seen texts found (f (c.Short x)) h (plain (c.Short x) refl) in (q.0, λ u. q.1)
kept f plain keeps texts (v.Char x) found h = let q = as_seen texts found (f (c.Char x)) h (plain (c.Char x) refl) in (q.0, λ u. q.1)
kept f plain keeps texts (v.Int x) found h = let q = as_seen texts found (f (c.Int x)) h (plain (c.Int x) refl) in (q.0, λ u. q.1)
kept f plain keeps texts (v.Long x) found h = let q = as_seen texts found (f (c.Long x)) h (plain (c.Long x) refl) in (q.0, λ u. q.1)

-- ---- one operand

promoted_plain : (w : Const) → is_str (promoted w) ≡ false
promoted_plain (c.Bool x) = refl
promoted_plain (c.Byte x) = refl
promoted_plain (c.Short x) = refl
promoted_plain (c.Char x) = refl
promoted_plain (c.Int x) = refl
promoted_plain (c.Long x) = refl
promoted_plain (c.Str x) = refl

negated_plain : (w : Const) → is_str (negated w) ≡ false
negated_plain (c.Bool x) = refl
negated_plain (c.Byte x) = refl
negated_plain (c.Short x) = refl
negated_plain (c.Char x) = refl
negated_plain (c.Int x) = refl
negated_plain (c.Long x) = refl
negated_plain (c.Str x) = refl

complemented_plain : (w : Const) → is_str (complemented w) ≡ false
complemented_plain (c.Bool x) = refl
complemented_plain (c.Byte x) = refl
complemented_plain (c.Short x) = refl
complemented_plain (c.Char x) = refl
complemented_plain (c.Int x) = refl
complemented_plain (c.Long x) = refl
complemented_plain (c.Str x) = refl

denied_plain : (w : Const) → is_str (denied w) ≡ false
denied_plain (c.Bool x) = refl
denied_plain (c.Byte x) = refl
denied_plain (c.Short x) = refl
denied_plain (c.Char x) = refl
denied_plain (c.Int x) = refl
denied_plain (c.Long x) = refl
denied_plain (c.Str x) = refl

unary_plain : (op : Symbol) → IsPlain (unary_value op)
unary_plain y.Plus w h = promoted_plain w
unary_plain y.Minus w h = negated_plain w
unary_plain y.Tilde w h = complemented_plain w
unary_plain y.Not w h = denied_plain w
unary_plain _ w h = refl

unary_none : (op : Symbol) (a : List ℕ) → unary_value op (c.Str a) ≡ None
unary_none y.Plus a = refl
unary_none y.Minus a = refl
unary_none y.Tilde a = refl
unary_none y.Not a = refl
unary_none _ a = refl

pub unary_tells : (op : Symbol) (texts : List (List ℕ)) (value found : Option Value) → seen_if found ≡ option_and_then (unary_value op) (seen_if value)
    → (value_in_if texts found ≡ option_and_then (unary_value op) (value_in_if texts value)) × (IsInIf texts value → IsInIf texts found)
unary_tells op texts None found h = let e = seen_none found h in (ap (value_in_if texts) e, λ u. subst (IsInIf texts) (sym e) tt)
unary_tells op texts (Some value) found h = kept (unary_value op) (unary_plain op) (inl (unary_none op)) texts value found h

-- ---- conversions

number_plain : (e : Element) (o : Option ℤ) → is_str (then_number o (number_to e)) ≡ false
number_plain e None = refl
number_plain element.Boolean (Some z) = refl
number_plain element.Byte (Some z) = refl
number_plain element.Short (Some z) = refl
number_plain element.Char (Some z) = refl
number_plain element.Int (Some z) = refl
number_plain element.Long (Some z) = refl
number_plain element.Null (Some z) = refl
number_plain element.Void (Some z) = refl
number_plain (element.Class s) (Some z) = refl

cast_plain : (e : Element) (w : Const) → is_str (cast_to e w) ≡ false
cast_plain element.Boolean (c.Bool x) = refl
cast_plain element.Boolean (c.Byte x) = refl
cast_plain element.Boolean (c.Short x) = refl
cast_plain element.Boolean (c.Char x) = refl
cast_plain element.Boolean (c.Int x) = refl
cast_plain element.Boolean (c.Long x) = refl
cast_plain element.Boolean (c.Str x) = refl
cast_plain element.Byte w = number_plain element.Byte (as_long w)
cast_plain element.Short w = number_plain element.Short (as_long w)
cast_plain element.Char w = number_plain element.Char (as_long w)
cast_plain element.Int w = number_plain element.Int (as_long w)
cast_plain element.Long w = number_plain element.Long (as_long w)
cast_plain element.Null w = number_plain element.Null (as_long w)
cast_plain element.Void w = number_plain element.Void (as_long w)
cast_plain (element.Class s) w = number_plain (element.Class s) (as_long w)

fits_plain : (e : Element) (o : Option ℤ) → is_str (then_number o (if_fits e)) ≡ false
fits_plain e None = refl
fits_plain e (Some z) = by (fits e z)
  where
    by : (b : Bool) → is_str (cond b (number_to e z) None) ≡ false
    by true = number_plain e (Some z)
    by false = refl

assigned_plain : (e : Element) (w : Const) → is_str (assigned_to e w) ≡ false
assigned_plain element.Boolean w = cast_plain element.Boolean w
assigned_plain element.Long w = cast_plain element.Long w
assigned_plain element.Int w = number_plain element.Int (as_int w)
assigned_plain element.Byte w = fits_plain element.Byte (as_int w)
assigned_plain element.Short w = fits_plain element.Short (as_int w)
assigned_plain element.Char w = fits_plain element.Char (as_int w)
assigned_plain element.Null w = fits_plain element.Null (as_int w)
assigned_plain element.Void w = fits_plain element.Void (as_int w)
assigned_plain (element.Class s) w = fits_plain (element.Class s) (as_int w)

cast_none : (e : Element) (a : List ℕ) → cast_to e (c.Str a) ≡ None
cast_none element.Boolean a = refl
cast_none element.Byte a = refl
cast_none element.Short a = refl
cast_none element.Char a = refl
cast_none element.Int a = refl
cast_none element.Long a = refl
cast_none element.Null a = refl
cast_none element.Void a = refl
cast_none (element.Class s) a = refl

assigned_none : (e : Element) (a : List ℕ) → assigned_to e (c.Str a) ≡ None
assigned_none element.Boolean a = refl
assigned_none element.Byte a = refl
assigned_none element.Short a = refl
assigned_none element.Char a = refl
assigned_none element.Int a = refl
assigned_none element.Long a = refl
assigned_none element.Null a = refl
assigned_none element.Void a = refl
assigned_none (element.Class s) a = refl

text_none : (p : Rows) (e : Element) (w : Const) → is_str (Some w) ≡ false → text_as p e w ≡ None
text_none p (element.Class s) (c.Str a) h = absurd (false≢true (sym h))
text_none p (element.Class s) (c.Bool x) h = refl
text_none p (element.Class s) (c.Byte x) h = refl
text_none p (element.Class s) (c.Short x) h = refl
text_none p (element.Class s) (c.Char x) h = refl
text_none p (element.Class s) (c.Int x) h = refl
text_none p (element.Class s) (c.Long x) h = refl
text_none p element.Boolean w h = refl
text_none p element.Byte w h = refl
text_none p element.Short w h = refl
text_none p element.Char w h = refl
text_none p element.Int w h = refl
text_none p element.Long w h = refl
text_none p element.Null w h = refl
text_none p element.Void w h = refl

module _ (p : Rows) (via : Conversion) (plain : (e : Element) (w : Const) → is_str (via e w) ≡ false) (none : (e : Element) (a : List ℕ) → via e (c.Str a) ≡ None) where
  or_plain : (o : Option Const) → is_str o ≡ false → is_str (or_value o None) ≡ false
  or_plain None h = refl
  or_plain (Some w) h = h

  value_plain : (dims : ℕ) (e : Element) → IsPlain (value_as p via dims e)
  value_plain (suc dims) e w h = refl
  value_plain zero e w h = ap (λ o. is_str (or_value (via e w) o)) (text_none p e w h) ∙ or_plain (via e w) (plain e w)

  string_keeps : (e : Element) → Keeps (λ w. or_value (via e w) (text_as p e w))
  string_keeps (element.Class s) = by (is_string p s) refl
    where
      by : (b : Bool) → is_string p s ≡ b → Keeps (λ w. or_value (via (element.Class s) w) (text_as p (element.Class s) w))
      by true h = inr (λ a. ap (λ o. or_value o (text_as p (element.Class s) (c.Str a))) (none (element.Class s) a) ∙ ap (λ b. cond b (Some (c.Str a)) None) h)
      by false h = inl (λ a. ap (λ o. or_value o (text_as p (element.Class s) (c.Str a))) (none (element.Class s) a) ∙ ap (λ b. cond b (Some (c.Str a)) None) h)
  string_keeps element.Boolean = inl (λ a. ap (λ o. or_value o None) (none element.Boolean a))
  string_keeps element.Byte = inl (λ a. ap (λ o. or_value o None) (none element.Byte a))
  string_keeps element.Short = inl (λ a. ap (λ o. or_value o None) (none element.Short a))
  string_keeps element.Char = inl (λ a. ap (λ o. or_value o None) (none element.Char a))
  string_keeps element.Int = inl (λ a. ap (λ o. or_value o None) (none element.Int a))
  string_keeps element.Long = inl (λ a. ap (λ o. or_value o None) (none element.Long a))
  string_keeps element.Null = inl (λ a. ap (λ o. or_value o None) (none element.Null a))
  string_keeps element.Void = inl (λ a. ap (λ o. or_value o None) (none element.Void a))

  value_keeps : (dims : ℕ) (e : Element) → Keeps (value_as p via dims e)
  value_keeps zero e = string_keeps e
  value_keeps (suc dims) e = inl (λ a. refl)

  converted_tells : (a : RowType) (texts : List (List ℕ)) (value : Value) (found : Option Value) → seen_if found ≡ converted_as p via a (seen value)
      → (value_in_if texts found ≡ converted_as p via a (value_in texts value)) × (IsIn texts value → IsInIf texts found)
  converted_tells a texts value found h = kept (converted_as p via a) (value_plain a.dims a.element) (value_keeps a.dims a.element) texts value found h

  two_tells : (a : Option RowType) (texts : List (List ℕ)) (value found : Option Value) → seen_if found ≡ of_two (converted_as p via) a (seen_if value)
      → (value_in_if texts found ≡ of_two (converted_as p via) a (value_in_if texts value)) × (IsInIf texts value → IsInIf texts found)
  two_tells None texts value found h = let e = seen_none found h in (ap (value_in_if texts) e, λ u. subst (IsInIf texts) (sym e) tt)
  two_tells (Some a) texts None found h = let e = seen_none found h in (ap (value_in_if texts) e, λ u. subst (IsInIf texts) (sym e) tt)
  two_tells (Some a) texts (Some value) found h = converted_tells a texts value found h

pub cast_tells : (p : Rows) (a : Option RowType) (texts : List (List ℕ)) (value found : Option Value) → seen_if found ≡ of_two (converted_as p cast_to) a (seen_if value)
    → (value_in_if texts found ≡ of_two (converted_as p cast_to) a (value_in_if texts value)) × (IsInIf texts value → IsInIf texts found)
cast_tells p = two_tells p cast_to cast_plain cast_none

pub assigned_tells : (p : Rows) (a : Option RowType) (texts : List (List ℕ)) (value found : Option Value) → seen_if found ≡ of_two (converted_as p assigned_to) a (seen_if value)
    → (value_in_if texts found ≡ of_two (converted_as p assigned_to) a (value_in_if texts value)) × (IsInIf texts value → IsInIf texts found)
assigned_tells p = two_tells p assigned_to assigned_plain assigned_none

-- ---- the conditional operator

converted_plain : (o : Option Element) (w : Const) → is_str (converted o w) ≡ false
converted_plain None w = refl
converted_plain (Some e) w = cast_plain e w

chosen_plain : (test : Bool) (a b : Const) → is_str (Some a) ≡ false → is_str (chosen test a b) ≡ false
chosen_plain test (c.Str x) b h = absurd (false≢true (sym h))
chosen_plain test (c.Bool x) b h = converted_plain (common (c.Bool x) b) (cond test (c.Bool x) b)
chosen_plain test (c.Byte x) b h = converted_plain (common (c.Byte x) b) (cond test (c.Byte x) b)
chosen_plain test (c.Short x) b h = converted_plain (common (c.Short x) b) (cond test (c.Short x) b)
chosen_plain test (c.Char x) b h = converted_plain (common (c.Char x) b) (cond test (c.Char x) b)
chosen_plain test (c.Int x) b h = converted_plain (common (c.Int x) b) (cond test (c.Int x) b)
chosen_plain test (c.Long x) b h = converted_plain (common (c.Long x) b) (cond test (c.Long x) b)

module _ (texts : List (List ℕ)) (test : Bool) where
  abbrev ChosenTells : Value → Value → Option Value → Type 0
  ChosenTells one other found = (value_in_if texts found ≡ chosen test (value_in texts one) (value_in texts other)) × (IsIn texts one → IsIn texts other → IsInIf texts found)

  none_tells : (one other : Value) (found : Option Value) → seen_if found ≡ None → chosen test (value_in texts one) (value_in texts other) ≡ None → ChosenTells one other found
  none_tells one other found h e = let q = seen_none found h in (ap (value_in_if texts) q ∙ sym e, λ x z. subst (IsInIf texts) (sym q) tt)

  plain_tells : (one other : Value) (found : Option Value) → is_text one ≡ false → is_text other ≡ false → is_str (chosen test (seen one) (seen other)) ≡ false
      → seen_if found ≡ chosen test (seen one) (seen other) → ChosenTells one other found
  plain_tells one other found i j plain h = let q = as_seen texts found (chosen test (seen one) (seen other)) h plain in
      (q.0 ∙ sym (ap₂ (chosen test) (plain_seen texts one i) (plain_seen texts other j)), λ x z. q.1)

  left_tells : (one other : Value) (found : Option Value) → is_text one ≡ false → is_str (Some (seen one)) ≡ false → seen_if found ≡ chosen test (seen one) (seen other)
      → ((m : ℕ) → chosen test (seen one) (c.Str (m ∷ [])) ≡ None) → ((a : List ℕ) → chosen test (value_in texts one) (c.Str a) ≡ None) → ChosenTells one other found
  left_tells one (v.Str m) found i k h none none' = none_tells one (v.Str m) found (h ∙ none m) (none' (text_at (slice_get texts m)))
  left_tells one (v.Bool x) found i k h none none' = plain_tells one (v.Bool x) found i refl (chosen_plain test (seen one) (c.Bool x) k) h
  left_tells one (v.Byte x) found i k h none none' = plain_tells one (v.Byte x) found i refl (chosen_plain test (seen one) (c.Byte x) k) h
  left_tells one (v.Short x) found i k h none none' = plain_tells one (v.Short x) found i refl (chosen_plain test (seen one) (c.Short x) k) h
  left_tells one (v.Char x) found i k h none none' = plain_tells one (v.Char x) found i refl (chosen_plain test (seen one) (c.Char x) k) h
  left_tells one (v.Int x) found i k h none none' = plain_tells one (v.Int x) found i refl (chosen_plain test (seen one) (c.Int x) k) h
  left_tells one (v.Long x) found i k h none none' = plain_tells one (v.Long x) found i refl (chosen_plain test (seen one) (c.Long x) k) h

  texts_tell : (b : Bool) (m k : ℕ) (found : Option Value) → seen_if found ≡ Some (c.Str (cond b (m ∷ []) (k ∷ [])))
      → (value_in_if texts found ≡ Some (c.Str (cond b (text_at (slice_get texts m)) (text_at (slice_get texts k))))) × (IsIn texts (v.Str m) → IsIn texts (v.Str k) → IsInIf texts found)
  texts_tell true m k found h = let e = seen_text found m h in (ap (value_in_if texts) e, λ x z. subst (IsInIf texts) (sym e) x)
  texts_tell false m k found h = let e = seen_text found k h in (ap (value_in_if texts) e, λ x z. subst (IsInIf texts) (sym e) z)

  pub chosen_tells : (one other : Value) (found : Option Value) → seen_if found ≡ chosen test (seen one) (seen other) → ChosenTells one other found
  chosen_tells (v.Str m) (v.Str k) found h = texts_tell test m k found h
  chosen_tells (v.Str m) (v.Bool x) found h = none_tells (v.Str m) (v.Bool x) found h refl
  chosen_tells (v.Str m) (v.Byte x) found h = none_tells (v.Str m) (v.Byte x) found h refl
  chosen_tells (v.Str m) (v.Short x) found h = none_tells (v.Str m) (v.Short x) found h refl
  chosen_tells (v.Str m) (v.Char x) found h = none_tells (v.Str m) (v.Char x) found h refl
  chosen_tells (v.Str m) (v.Int x) found h = none_tells (v.Str m) (v.Int x) found h refl
  chosen_tells (v.Str m) (v.Long x) found h = none_tells (v.Str m) (v.Long x) found h refl
  chosen_tells (v.Bool x) other found h = left_tells (v.Bool x) other found refl refl h (λ m. refl) (λ a. refl)
  chosen_tells (v.Byte x) other found h = left_tells (v.Byte x) other found refl refl h (λ m. refl) (λ a. refl)
  chosen_tells (v.Short x) other found h = left_tells (v.Short x) other found refl refl h (λ m. refl) (λ a. refl)
  chosen_tells (v.Char x) other found h = left_tells (v.Char x) other found refl refl h (λ m. refl) (λ a. refl)
  chosen_tells (v.Int x) other found h = left_tells (v.Int x) other found refl refl h (λ m. refl) (λ a. refl)
  chosen_tells (v.Long x) other found h = left_tells (v.Long x) other found refl refl h (λ m. refl) (λ a. refl)

nothing_tells : (texts : List (List ℕ)) (one other found : Option Value) (o : Option Const) → seen_if found ≡ None → o ≡ None
    → (value_in_if texts found ≡ o) × (IsInIf texts one → IsInIf texts other → IsInIf texts found)
nothing_tells texts one other found o h e = let q = seen_none found h in (ap (value_in_if texts) q ∙ sym e, λ x z. subst (IsInIf texts) (sym q) tt)

pub conditional_tells : (texts : List (List ℕ)) (test one other found : Option Value) → seen_if found ≡ chosen_value (seen_if test) (seen_if one) (seen_if other)
    → (value_in_if texts found ≡ chosen_value (value_in_if texts test) (value_in_if texts one) (value_in_if texts other)) × (IsInIf texts one → IsInIf texts other → IsInIf texts found)
conditional_tells texts (Some (v.Bool b)) (Some one) (Some other) found h = chosen_tells texts b one other found h
conditional_tells texts (Some (v.Bool b)) (Some one) None found h = nothing_tells texts (Some one) None found None h refl
conditional_tells texts (Some (v.Bool b)) None other found h = nothing_tells texts None other found None h refl
conditional_tells texts (Some (v.Byte x)) one other found h = nothing_tells texts one other found None h refl
conditional_tells texts (Some (v.Short x)) one other found h = nothing_tells texts one other found None h refl
conditional_tells texts (Some (v.Char x)) one other found h = nothing_tells texts one other found None h refl
conditional_tells texts (Some (v.Int x)) one other found h = nothing_tells texts one other found None h refl
conditional_tells texts (Some (v.Long x)) one other found h = nothing_tells texts one other found None h refl
conditional_tells texts (Some (v.Str x)) one other found h = nothing_tells texts one other found None h refl
conditional_tells texts None one other found h = nothing_tells texts one other found None h refl

-- ---- two operands

cond_plain : (b : Bool) (x z : Option Const) → is_str x ≡ false → is_str z ≡ false → is_str (cond b x z) ≡ false
cond_plain true x z h k = h
cond_plain false x z h k = k

module _ (w : Width) (of_type : ℤ → Const) (plain : (z : ℤ) → is_str (Some (of_type z)) ≡ false) where
  two_plain : (op : Symbol) (a b : ℤ) → is_str (number_value w of_type op a b) ≡ false
  two_plain y.Star a b = plain _
  two_plain y.Plus a b = plain _
  two_plain y.Minus a b = plain _
  two_plain y.And a b = plain _
  two_plain y.Or a b = plain _
  two_plain y.Caret a b = plain _
  two_plain y.Slash a b = cond_plain (is_zero b) None _ refl (plain _)
  two_plain y.Percent a b = cond_plain (is_zero b) None _ refl (plain _)
  two_plain _ a b = refl

  shift_plain : (size : ℕ) (op : Symbol) (a b : ℤ) → is_str (shift_value w size of_type op a b) ≡ false
  shift_plain size y.ShiftLeft a b = plain _
  shift_plain size y.ShiftRight a b = plain _
  shift_plain size y.ShiftRightUnsigned a b = plain _
  shift_plain size _ a b = refl

shifts_plain : (op : Symbol) (a b d : Option ℤ) → is_str (shift_of op a b d) ≡ false
shifts_plain op (Some a) b (Some d) = shift_plain w32 (λ z. c.Int z) (λ z. refl) 32 op a d
shifts_plain op None (Some b) (Some d) = shift_plain w64 (λ z. c.Long z) (λ z. refl) 64 op b d
shifts_plain op (Some a) b None = refl
shifts_plain op None (Some b) None = refl
shifts_plain op None None d = refl

numbers_plain : (op : Symbol) (a b d e : Option ℤ) → is_str (two_numbers op a b d e) ≡ false
numbers_plain op (Some a) (Some b) d e = two_plain w32 (λ z. c.Int z) (λ z. refl) op a b
numbers_plain op None b (Some d) (Some e) = two_plain w64 (λ z. c.Long z) (λ z. refl) op d e
numbers_plain op (Some a) None (Some d) (Some e) = two_plain w64 (λ z. c.Long z) (λ z. refl) op d e
numbers_plain op None b None e = refl
numbers_plain op None b (Some d) None = refl
numbers_plain op (Some a) None None e = refl
numbers_plain op (Some a) None (Some d) None = refl

pub both_plain : (op : Symbol) (a b : Const) → is_str (numbers_value op a b) ≡ false
both_plain op a b = cond_plain (is_shift op) _ _ (shifts_plain op (as_int a) (as_long a) (as_long b)) (numbers_plain op (as_int a) (as_int b) (as_long a) (as_long b))

bool_plain : (op : Symbol) (a b : Bool) → is_str (bool_value op a b) ≡ false
bool_plain y.AndAnd a b = refl
bool_plain y.OrOr a b = refl
bool_plain y.And a b = refl
bool_plain y.Or a b = refl
bool_plain y.Caret a b = refl
bool_plain y.Equal a b = refl
bool_plain y.NotEqual a b = refl
bool_plain _ a b = refl

pub binary_plain : (op : Symbol) (left right : Value) → has_text left right ≡ false → is_str (binary_value op (seen left) (seen right)) ≡ false
binary_plain op (v.Str m) right h = absurd (false≢true (sym h))
binary_plain op (v.Bool x) (v.Str m) h = absurd (false≢true (sym h))
binary_plain op (v.Bool x) (v.Bool z) h = bool_plain op x z
binary_plain op (v.Bool x) (v.Byte z) h = both_plain op (c.Bool x) (c.Byte z)
binary_plain op (v.Bool x) (v.Short z) h = both_plain op (c.Bool x) (c.Short z)
binary_plain op (v.Bool x) (v.Char z) h = both_plain op (c.Bool x) (c.Char z)
binary_plain op (v.Bool x) (v.Int z) h = both_plain op (c.Bool x) (c.Int z)
binary_plain op (v.Bool x) (v.Long z) h = both_plain op (c.Bool x) (c.Long z)
binary_plain op (v.Byte x) (v.Str m) h = absurd (false≢true (sym h))
binary_plain op (v.Byte x) (v.Bool z) h = both_plain op (c.Byte x) (c.Bool z)
binary_plain op (v.Byte x) (v.Byte z) h = both_plain op (c.Byte x) (c.Byte z)
binary_plain op (v.Byte x) (v.Short z) h = both_plain op (c.Byte x) (c.Short z)
binary_plain op (v.Byte x) (v.Char z) h = both_plain op (c.Byte x) (c.Char z)
binary_plain op (v.Byte x) (v.Int z) h = both_plain op (c.Byte x) (c.Int z)
binary_plain op (v.Byte x) (v.Long z) h = both_plain op (c.Byte x) (c.Long z)
binary_plain op (v.Short x) (v.Str m) h = absurd (false≢true (sym h))
binary_plain op (v.Short x) (v.Bool z) h = both_plain op (c.Short x) (c.Bool z)
binary_plain op (v.Short x) (v.Byte z) h = both_plain op (c.Short x) (c.Byte z)
binary_plain op (v.Short x) (v.Short z) h = both_plain op (c.Short x) (c.Short z)
binary_plain op (v.Short x) (v.Char z) h = both_plain op (c.Short x) (c.Char z)
binary_plain op (v.Short x) (v.Int z) h = both_plain op (c.Short x) (c.Int z)
binary_plain op (v.Short x) (v.Long z) h = both_plain op (c.Short x) (c.Long z)
binary_plain op (v.Char x) (v.Str m) h = absurd (false≢true (sym h))
binary_plain op (v.Char x) (v.Bool z) h = both_plain op (c.Char x) (c.Bool z)
binary_plain op (v.Char x) (v.Byte z) h = both_plain op (c.Char x) (c.Byte z)
binary_plain op (v.Char x) (v.Short z) h = both_plain op (c.Char x) (c.Short z)
binary_plain op (v.Char x) (v.Char z) h = both_plain op (c.Char x) (c.Char z)
binary_plain op (v.Char x) (v.Int z) h = both_plain op (c.Char x) (c.Int z)
binary_plain op (v.Char x) (v.Long z) h = both_plain op (c.Char x) (c.Long z)
binary_plain op (v.Int x) (v.Str m) h = absurd (false≢true (sym h))
binary_plain op (v.Int x) (v.Bool z) h = both_plain op (c.Int x) (c.Bool z)
binary_plain op (v.Int x) (v.Byte z) h = both_plain op (c.Int x) (c.Byte z)
binary_plain op (v.Int x) (v.Short z) h = both_plain op (c.Int x) (c.Short z)
binary_plain op (v.Int x) (v.Char z) h = both_plain op (c.Int x) (c.Char z)
binary_plain op (v.Int x) (v.Int z) h = both_plain op (c.Int x) (c.Int z)
binary_plain op (v.Int x) (v.Long z) h = both_plain op (c.Int x) (c.Long z)
binary_plain op (v.Long x) (v.Str m) h = absurd (false≢true (sym h))
binary_plain op (v.Long x) (v.Bool z) h = both_plain op (c.Long x) (c.Bool z)
binary_plain op (v.Long x) (v.Byte z) h = both_plain op (c.Long x) (c.Byte z)
binary_plain op (v.Long x) (v.Short z) h = both_plain op (c.Long x) (c.Short z)
binary_plain op (v.Long x) (v.Char z) h = both_plain op (c.Long x) (c.Char z)
binary_plain op (v.Long x) (v.Int z) h = both_plain op (c.Long x) (c.Int z)
binary_plain op (v.Long x) (v.Long z) h = both_plain op (c.Long x) (c.Long z)

or_left : (a b : Bool) → (a || b) ≡ false → a ≡ false
or_left false b h = refl
or_left true b h = h

or_right : (a b : Bool) → (a || b) ≡ false → b ≡ false
or_right false b h = h
or_right true b h = absurd (false≢true (sym h))

pub operated_tells : (op : Symbol) (texts : List (List ℕ)) (left right : Value) (found : Option Value) → has_text left right ≡ false → seen_if found ≡ binary_value op (seen left) (seen right)
    → (value_in_if texts found ≡ binary_value op (value_in texts left) (value_in texts right)) × IsInIf texts found
operated_tells op texts left right found none h = let q = as_seen texts found (binary_value op (seen left) (seen right)) h (binary_plain op left right none) in
    (q.0 ∙ sym (ap₂ (binary_value op) (plain_seen texts left (or_left (is_text left) (is_text right) none)) (plain_seen texts right (or_right (is_text left) (is_text right) none))), q.1)

bool_none : (op : Symbol) (a : Bool) (w : Const) → numbers_value op (c.Bool a) w ≡ None
bool_none op a w = by (is_shift op)
  where
    by : (b : Bool) → cond b (shift_of op None None (as_long w)) (two_numbers op None (as_int w) None (as_long w)) ≡ None
    by true = refl
    by false = refl
