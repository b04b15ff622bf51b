-- Texts that are added to others, and operators on texts.
use Rattle.std.proofs.Common.{◌≡◌, refl, ap, true, false, ℕ, List, [], ◌∷◌, ◌++◌, Some, None, length, slice_get}
use Rattle.std.proofs.lemmas.Bool.{false≢true}
use Rattle.jr_base.specs.declared.kind.Symbol.{Symbol}
use Rattle.jr_base.specs.declared.kind.Symbol.TheVariants as y
use Rattle.jr_base.specs.declared.constant.Const.{Const}
use Rattle.jr_base.specs.declared.constant.Const.TheVariants as c
use Rattle.jr_defs.specs.Operators.{text_of, text_value, joined, binary_value}
use Rattle.jr_constants.specs.declared.value.Value.{Value}
use Rattle.jr_constants.specs.declared.value.Value.TheVariants as v
use Rattle.jr_constants.specs.Values.{value_in, has_text, equal_texts, as_test, texts_value}

pub new_text : (texts : List (List ℕ)) (units : List ℕ) → slice_get (texts ++ units ∷ []) (length texts) ≡ Some units
new_text [] units = refl
new_text (one ∷ more) units = new_text more units

both : (op : Symbol) (a b : List ℕ) → texts_value op (c.Str a) (c.Str b) ≡ text_value op a b
both y.Plus a b = refl
both y.Equal a b = refl
both y.NotEqual a b = refl
both _ a b = refl

left_alone : (op : Symbol) (a : List ℕ) (b : Const) → equal_texts (c.Str a) b ≡ None → texts_value op (c.Str a) b ≡ joined op a (text_of b)
left_alone y.Plus a b h = refl
left_alone y.Equal a b h = ap (as_test true) h
left_alone y.NotEqual a b h = ap (as_test false) h
left_alone _ a b h = refl

right_alone : (op : Symbol) (a : Const) (b : List ℕ) → equal_texts a (c.Str b) ≡ None → texts_value op a (c.Str b) ≡ joined op (text_of a) b
right_alone y.Plus a b h = refl
right_alone y.Equal a b h = ap (as_test true) h
right_alone y.NotEqual a b h = ap (as_test false) h
right_alone _ a b h = refl

pub texts_value_is : (op : Symbol) (texts : List (List ℕ)) (left right : Value) → has_text left right ≡ true
    → texts_value op (value_in texts left) (value_in texts right) ≡ binary_value op (value_in texts left) (value_in texts right)
texts_value_is op texts (v.Str x) (v.Str z) h = both op _ _
texts_value_is op texts (v.Str x) (v.Bool z) h = left_alone op _ (c.Bool z) refl
texts_value_is op texts (v.Str x) (v.Byte z) h = left_alone op _ (c.Byte z) refl
texts_value_is op texts (v.Str x) (v.Short z) h = left_alone op _ (c.Short z) refl
texts_value_is op texts (v.Str x) (v.Char z) h = left_alone op _ (c.Char z) refl
texts_value_is op texts (v.Str x) (v.Int z) h = left_alone op _ (c.Int z) refl
texts_value_is op texts (v.Str x) (v.Long z) h = left_alone op _ (c.Long z) refl
texts_value_is op texts (v.Bool x) (v.Str z) h = right_alone op (c.Bool x) _ refl
texts_value_is op texts (v.Byte x) (v.Str z) h = right_alone op (c.Byte x) _ refl
texts_value_is op texts (v.Short x) (v.Str z) h = right_alone op (c.Short x) _ refl
texts_value_is op texts (v.Char x) (v.Str z) h = right_alone op (c.Char x) _ refl
texts_value_is op texts (v.Int x) (v.Str z) h = right_alone op (c.Int x) _ refl
texts_value_is op texts (v.Long x) (v.Str z) h = right_alone op (c.Long x) _ refl
texts_value_is op texts _ _ h = absurd (false≢true h)
