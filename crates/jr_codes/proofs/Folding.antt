-- Constants after casts, and declarations.
use Rattle.std.proofs.Common.{◌≡◌, refl, sym, ◌∙◌, ap, ℕ, suc, ◌+◌, arith, ℤ, Bool, true, false, List, Option, Some, None}
use Rattle.std.proofs.lemmas.Bool.{false≢true, true≢false}
use Rattle.std.proofs.lemmas.Option.{none-some}
use Rattle.jr_base.specs.declared.ids.NodeAt.{NodeAt}
use Rattle.jr_base.specs.declared.constant.Const.{Const}
use Rattle.jr_base.specs.declared.ty.Ty.{Ty}
use Rattle.jr_base.specs.declared.ty.Ty.TheVariants as ty
use Rattle.jr_base.specs.declared.constant.Const.TheVariants as c
use Rattle.jr_defs.specs.declared.referent.Element.{Element}
use Rattle.jr_defs.specs.declared.referent.Element.TheVariants as element
use Rattle.jr_defs.specs.Operators.{as_long, number_to, then_number, cast_to}
use Rattle.jr_constants.specs.declared.value.Value.{Value}
use Rattle.jr_constants.specs.declared.value.Value.TheVariants as v
use Rattle.jr_constants.specs.Values.{seen, seen_if, value_in, value_in_if}
use Rattle.jr_codes.specs.Conversions.{folded}
use Rattle.jr_codes.specs.Facts.{arrays}
use Rattle.jr_tree.specs.declared.label.Label.{Label}
use Rattle.jr_tree.specs.declared.label.Label.TheVariants as is
use Rattle.jr_tree.specs.Rows.{Rows, label, parent}
use Rattle.jr_plain.specs.Modifiers.{is_default_constructor}
use Rattle.jr_codes.specs.Reads.{node_at, decl_by, decl_at}

own_by : (l : Label) (nodes : List NodeAt) (p : Rows) (n : ℕ) → is_default_constructor l ≡ true → decl_by l nodes p n ≡ record { at = node_at nodes (parent p (parent p n)); part = 1 }
own_by is.DefaultConstructor nodes p n h = refl
own_by _ nodes p n h = absurd (false≢true h)

pub own_decl : (nodes : List NodeAt) (p : Rows) (n : ℕ) → is_default_constructor (label p n) ≡ true → decl_at nodes p n ≡ record { at = node_at nodes (parent p (parent p n)); part = 1 }
own_decl nodes p n h = own_by (label p n) nodes p n h

other_by : (l : Label) (nodes : List NodeAt) (p : Rows) (n : ℕ) → is_default_constructor l ≡ false → decl_by l nodes p n ≡ record { at = node_at nodes n; part = 0 }
other_by is.DefaultConstructor nodes p n h = absurd (true≢false h)
other_by _ nodes p n h = refl

pub other_decl : (nodes : List NodeAt) (p : Rows) (n : ℕ) → is_default_constructor (label p n) ≡ false → decl_at nodes p n ≡ record { at = node_at nodes n; part = 0 }
other_decl nodes p n h = other_by (label p n) nodes p n h

-- ---- constants after casts are no texts, and so the same whatever the texts are

abbrev is_str : Option Const → Bool
is_str (Some (c.Str units)) = true
is_str _ = false

not_str_number : (e : Element) (z : ℤ) → is_str (number_to e z) ≡ false
not_str_number element.Byte z = refl
not_str_number element.Short z = refl
not_str_number element.Char z = refl
not_str_number element.Int z = refl
not_str_number element.Long z = refl
not_str_number _ z = refl

not_str_then : (e : Element) (o : Option ℤ) → is_str (then_number o (number_to e)) ≡ false
not_str_then e None = refl
not_str_then e (Some z) = not_str_number e z

not_str_cast : (e : Element) (y : Const) → is_str (cast_to e y) ≡ false
not_str_cast element.Boolean (c.Bool b) = refl
not_str_cast element.Boolean _ = refl
not_str_cast e y = not_str_then e (as_long y)

text_lost : (e : Element) (units : List ℕ) → cast_to e (c.Str units) ≡ None
text_lost element.Boolean units = refl
text_lost _ units = refl

seen_cast : (texts : List (List ℕ)) (e : Element) (x : Value) → cast_to e (seen x) ≡ cast_to e (value_in texts x)
seen_cast texts e (v.Str n) = text_lost e _ ∙ sym (text_lost e _)
seen_cast texts e _ = refl

cast_seen : (texts : List (List ℕ)) (e : Element) (y : Const) (w : Option Value) → seen_if w ≡ cast_to e y → value_in_if texts w ≡ cast_to e y
cast_seen texts e y (Some (v.Str n)) h = absurd (true≢false (ap is_str h ∙ not_str_cast e y))
cast_seen texts e y _ h = h

pub folded_is : (texts : List (List ℕ)) (e : Element) (value w : Option Value) → seen_if w ≡ folded (seen_if value) e → value_in_if texts w ≡ folded (value_in_if texts value) e
folded_is texts e None None h = refl
folded_is texts e None (Some x) h = absurd (none-some _ (sym h))
folded_is texts e (Some x) w h = cast_seen texts e (value_in texts x) w (h ∙ seen_cast texts e x)

-- one dimension more
pub arrays_more : (n : ℕ) (item : Ty) → arrays (n + 1) item ≡ ty.Array (arrays n item)
arrays_more n item = let same : n + 1 ≡ suc n = omega arith in ap (λ k. arrays k item) same
