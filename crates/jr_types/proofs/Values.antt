-- The type of `?:` by the ints that constants are.
use Rattle.std.proofs.Common.{◌≡◌, refl, ◌∙◌, ap, ap₂, ℕ, ◌+◌, cond, ◌&&◌, Option, Some, None, List}
use Rattle.std.specs.Prelude.{ℤ, option_map, slice_index_or}
use Rattle.jr_base.specs.declared.constant.Const.{Const}
use Rattle.jr_base.specs.declared.constant.Const.TheVariants as c
use Rattle.jr_tree.specs.Rows.{Rows, end}
use Rattle.jr_defs.specs.declared.referent.Element.{Element}
use Rattle.jr_defs.specs.declared.referent.Element.TheVariants as element
use Rattle.jr_defs.specs.declared.referent.RowType.{RowType}
use Rattle.jr_defs.specs.Referents.{Table}
use Rattle.jr_defs.specs.Types.{plain}
use Rattle.jr_plain.specs.Same.{same_type}
use Rattle.jr_plain.specs.Supertypes.{is_reference_type, is_null}
use Rattle.jr_plain.specs.Conversions.{Constants, of_two, plain_of, is_plain, is_void, promoted_both}
use Rattle.jr_plain.specs.Overloads.{Types}
use Rattle.jr_plain.specs.Typing.{is_small, is_int_that_fits, own_type, or_promoted, number_type, of_plain, wider_type, mixed_type, conditional_type, second, third}
use Rattle.jr_types.specs.Seen.{int_if, operands}
use Rattle.jr_types.specs.Typed.{int_of, end_if, third_if, operand_of, operand_if, conditional_on}
use Rattle.jr_types.proofs.Operands.{two_mapped, operand_second, operand_third}

fits_is : (a : Element) (v : Option Const) → is_int_that_fits a (int_if (int_of v)) ≡ is_int_that_fits a v
fits_is a (Some (c.Int z)) = refl
fits_is a (Some _) = refl
fits_is a None = refl

module _ (constant : Constants) (m k : ℕ) where
  own_is : (x y : Element) → own_type (operands (int_of (constant m)) (int_of (constant k))) 0 1 x y ≡ own_type constant m k x y
  own_is element.Byte element.Short = refl
  own_is element.Short element.Byte = refl
  own_is x element.Int = ap (λ b. cond (is_small x && b) (Some x) None) (fits_is x (constant k))
  own_is element.Int y = ap (λ b. cond (is_small y && b) (Some y) None) (fits_is y (constant m))
  own_is _ _ = refl

  number_is : (x y : Element) → number_type (operands (int_of (constant m)) (int_of (constant k))) 0 1 x y ≡ number_type constant m k x y
  number_is x y = ap (λ r. or_promoted r (promoted_both x y)) (own_is x y)

  plain_is : (u v : Option Element) → of_plain (number_type (operands (int_of (constant m)) (int_of (constant k))) 0 1) u v ≡ of_plain (number_type constant m k) u v
  plain_is (Some x) (Some y) = ap (option_map plain) (number_is x y)
  plain_is (Some x) None = refl
  plain_is None v = refl

  mixed_is : (p : Rows) (t : Table) (a b : RowType) → mixed_type p t (operands (int_of (constant m)) (int_of (constant k))) 0 1 a b ≡ mixed_type p t constant m k a b
  mixed_is p t a b = ap (λ r. cond (is_reference_type a && is_reference_type b) (wider_type p t a b)
      (cond (is_plain is_null a && is_reference_type b) (Some b) (cond (is_reference_type a && is_plain is_null b) (Some a) r))) (plain_is (plain_of a) (plain_of b))

  pub conditional_is : (p : Rows) (t : Table) (a b : RowType) → conditional_type p t (operands (int_of (constant m)) (int_of (constant k))) 0 1 a b ≡ conditional_type p t constant m k a b
  conditional_is p t a b = ap (λ r. cond (same_type a b) (cond (is_plain is_void a) None (Some a)) r) (mixed_is p t a b)

-- the type of two operands at their rows
pub chosen_is : (p : Rows) (t : Table) (constant : Constants) (types : Types) (ints : List (Option ℤ)) (n : ℕ) → ((k : ℕ) → slice_index_or ints k None ≡ int_of (constant k))
    → of_two (conditional_on p t) (operand_if p types ints n (end_if p (n + 1))) (operand_if p types ints n (third_if p n))
    ≡ of_two (conditional_type p t constant (end p (n + 1)) (end p (end p (n + 1)))) (second p types n) (third p types n)
chosen_is p t constant types ints n known = ap₂ (of_two (conditional_on p t)) (operand_second p types n ints) (operand_third p types n ints)
    ∙ two_mapped (conditional_on p t) (conditional_type p t constant (end p (n + 1)) (end p (end p (n + 1)))) (λ a. operand_of a (slice_index_or ints (end p (n + 1)) None)) (λ a. operand_of a (slice_index_or ints (end p (end p (n + 1))) None))
    (λ a b. ap₂ (λ v w. conditional_type p t (operands v w) 0 1 a b) (known (end p (n + 1))) (known (end p (end p (n + 1)))) ∙ conditional_is constant (end p (n + 1)) (end p (end p (n + 1))) p t a b)
    (second p types n) (third p types n)
