-- The third child, and constants by the numbers of their texts.
use Rattle.std.proofs.Common.{◌≡◌, refl, sym, ◌∙◌, ap, ℕ, List, [], Option, Some, None}
use Rattle.std.specs.Prelude.{ℤ, is_some, option_map}
use Rattle.jr_base.specs.declared.constant.Const.TheVariants as c
use Rattle.jr_tree.specs.Rows.{Rows}
use Rattle.jr_defs.specs.declared.referent.Element.{Element}
use Rattle.jr_defs.specs.declared.referent.Element.TheVariants as element
use Rattle.jr_defs.specs.declared.referent.RowType.{RowType}
use Rattle.jr_defs.specs.Operators.{assigned_to}
use Rattle.jr_plain.specs.Overloads.{Types}
use Rattle.jr_plain.specs.Typing.{child, third}
use Rattle.jr_constants.specs.declared.value.Value.{Value}
use Rattle.jr_constants.specs.declared.value.Value.TheVariants as v
use Rattle.jr_constants.specs.Values.{seen, seen_if, value_in, value_in_if}
use Rattle.jr_types.specs.Typed.{int_of, third_if, child_if, operand_of, operand_if}
use Rattle.jr_types.proofs.Operands.{operand_third}
use Rattle.jr_type_facts.specs.Views.{int_in}

-- ---- the third child

-- the type of an operand
type_again : (o : Option RowType) (value : Option ℤ) → option_map (λ x. x.ty) (option_map (λ a. operand_of a value) o) ≡ o
type_again None value = refl
type_again (Some a) value = refl

child_again : (p : Rows) (types : Types) (n : ℕ) (k : Option ℕ) → child_if p types n k ≡ option_map (λ x. x.ty) (operand_if p types [] n k)
child_again p types n None = refl
child_again p types n (Some m) = sym (type_again (child p types n m) _)

pub third_is : (p : Rows) (types : Types) (n : ℕ) → child_if p types n (third_if p n) ≡ third p types n
third_is p types n = child_again p types n (third_if p n) ∙ ap (option_map (λ x. x.ty)) (operand_third p types n []) ∙ type_again (third p types n) _

-- ---- constants

pub int_told : (texts : List (List ℕ)) (value : Option Value) → int_in value ≡ int_of (value_in_if texts value)
int_told texts None = refl
int_told texts (Some (v.Int z)) = refl
int_told texts (Some (v.Bool b)) = refl
int_told texts (Some (v.Byte z)) = refl
int_told texts (Some (v.Short z)) = refl
int_told texts (Some (v.Char n)) = refl
int_told texts (Some (v.Long z)) = refl
int_told texts (Some (v.Str n)) = refl

-- no text may be assigned to a primitive type, whichever it is
same_text : (e : Element) (a b : List ℕ) → assigned_to e (c.Str a) ≡ assigned_to e (c.Str b)
same_text element.Boolean a b = refl
same_text element.Byte a b = refl
same_text element.Short a b = refl
same_text element.Char a b = refl
same_text element.Int a b = refl
same_text element.Long a b = refl
same_text element.Null a b = refl
same_text element.Void a b = refl
same_text (element.Class s) a b = refl

pub seen_told : (e : Element) (texts : List (List ℕ)) (value : Value) → assigned_to e (seen value) ≡ assigned_to e (value_in texts value)
seen_told e texts (v.Bool b) = refl
seen_told e texts (v.Byte z) = refl
seen_told e texts (v.Short z) = refl
seen_told e texts (v.Char n) = refl
seen_told e texts (v.Int z) = refl
seen_told e texts (v.Long z) = refl
seen_told e texts (v.Str n) = same_text e _ _

there : (found : Option Value) → is_some found ≡ is_some (seen_if found)
there None = refl
there (Some value) = refl

pub assigned_told : (e : Element) (texts : List (List ℕ)) (value : Value) (found : Option Value) → seen_if found ≡ assigned_to e (seen value) → is_some found ≡ is_some (assigned_to e (value_in texts value))
assigned_told e texts value found is = there found ∙ ap is_some (is ∙ seen_told e texts value)

-- a value is there, where it is one of texts
pub value_there : (texts : List (List ℕ)) (value : Option Value) → is_some value ≡ is_some (value_in_if texts value)
value_there texts None = refl
value_there texts (Some value) = refl
