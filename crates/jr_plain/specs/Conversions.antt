-- Promotion, assignment and casts, computed (JLS 5.2, 5.5, 5.6).
use Rattle.std.specs.Prelude.{ℕ, zero, suc, Bool, true, false, not, ◌&&◌, ◌||◌, if◌then◌else◌, Option, Some, None, is_some}
use Rattle.jr_base.specs.declared.constant.Const.{Const}
use Rattle.jr_tree.specs.Rows.{Rows}
use Rattle.jr_defs.specs.declared.referent.Element.{Element}
use Rattle.jr_defs.specs.declared.referent.Element.TheVariants as element
use Rattle.jr_defs.specs.declared.referent.RowType.{RowType}
use Rattle.jr_defs.specs.Referents.{Table}
use Rattle.jr_defs.specs.Types.{array}
use Rattle.jr_defs.specs.Operators.{assigned_to}
use Rattle.jr_plain.specs.Declarations.{is_class, is_interface}
use Rattle.jr_plain.specs.Modifiers.{is_final}
use Rattle.jr_plain.specs.Supertypes.{is_reference_type, is_null, is_subtype}

-- the values of constant expressions, by their rows
abbrev pub Constants : Type 0
Constants = ℕ → Option Const

-- what two give, where both are there
abbrev pub of_two : {A B C : Type 0} → (A → B → Option C) → Option A → Option B → Option C
of_two f (Some a) (Some b) = f a b
of_two f _ _ = None

abbrev pub is_boolean : Element → Bool
is_boolean element.Boolean = true
is_boolean _ = false

abbrev pub is_void : Element → Bool
is_void element.Void = true
is_void _ = false

-- byte, short, char and int
abbrev pub is_integral : Element → Bool
is_integral element.Byte = true
is_integral element.Short = true
is_integral element.Char = true
is_integral element.Int = true
is_integral _ = false

abbrev pub is_long : Element → Bool
is_long element.Long = true
is_long _ = false

-- those and long (JLS 4.2.1)
abbrev pub is_numeric : Element → Bool
is_numeric e = is_integral e || is_long e

-- boolean and the numeric types (JLS 4.2)
abbrev pub is_primitive : Element → Bool
is_primitive e = is_numeric e || is_boolean e

-- the type of one promoted operand, and of two (JLS 5.6.1, 5.6.2)
abbrev pub promoted_type : Element → Option Element
promoted_type e = if is_integral e then Some element.Int else if is_long e then Some element.Long else None

abbrev pub promoted_both : Element → Element → Option Element
promoted_both a b = if is_integral a && is_integral b then Some element.Int else if is_numeric a && is_numeric b then Some element.Long else None

-- the element type, where there are no dimensions
abbrev pub plain_at : ℕ → Element → Option Element
plain_at zero e = Some e
plain_at (suc dims) e = None

abbrev pub plain_of : RowType → Option Element
plain_of a = plain_at a.dims a.element

-- the type is plain, and its element type passes
abbrev pub passes : (Element → Bool) → Option Element → Bool
passes test None = false
passes test (Some e) = test e

abbrev pub is_plain : (Element → Bool) → RowType → Bool
is_plain test a = passes test (plain_of a)

-- class, interface and array types, and that of null
abbrev pub is_reference_or_null : RowType → Bool
is_reference_or_null a = is_reference_type a || is_plain is_null a

-- one of the two types is a subtype of the other
abbrev pub is_related : Rows → Table → RowType → RowType → Bool
is_related p t a b =
    (is_reference_or_null a && is_reference_type b && is_subtype p t a b) || (is_reference_type a && is_reference_type b && is_subtype p t b a)

-- a cast from a class or interface to another one, neither of them below the other
abbrev pub is_castable_class : Rows → Element → Element → Bool
is_castable_class p (element.Class c) (element.Class d) =
    (is_interface p c && is_class p d && not (is_final p d)) || (is_class p c && not (is_final p c) && is_interface p d) || (is_interface p c && is_interface p d)
is_castable_class p _ _ = false

-- a cast from the element type a with m dimensions to b with n
abbrev pub is_castable_from : Rows → Table → Element → Element → ℕ → ℕ → Bool
is_castable_from p t a b zero zero =
    (is_numeric a && is_numeric b) || (is_boolean a && is_boolean b) || is_castable_class p a b || is_related p t (array a zero) (array b zero)
is_castable_from p t a b zero (suc n) = is_related p t (array a zero) (array b (suc n))
is_castable_from p t a b (suc m) zero = is_related p t (array a (suc m)) (array b zero)
is_castable_from p t a b (suc m) (suc n) = let inner = is_castable_from p t a b m n in
    (is_reference_type (array a m) && is_reference_type (array b n) && inner) || is_related p t (array a (suc m)) (array b (suc n))

-- a cast from a to b is allowed (JLS 5.5)
abbrev pub is_castable : Rows → Table → RowType → RowType → Bool
is_castable p t a b = is_castable_from p t a.element b.element a.dims b.dims

-- the value of a constant that may be assigned to a type (JLS 5.2)
abbrev pub fits_as : Element → Option Const → Bool
fits_as e None = false
fits_as e (Some v) = is_some (assigned_to e v)

-- a constant of one integral type may be assigned to a place of another
abbrev pub is_fitting : Constants → ℕ → Option Element → Option Element → Bool
is_fitting constant n (Some a) (Some b) = is_integral a && is_integral b && fits_as b (constant n)
is_fitting constant n _ _ = false

-- an expression of the type a may be assigned to a place of the type b (JLS 5.2)
abbrev pub is_assignable : Rows → Table → Constants → ℕ → RowType → RowType → Bool
is_assignable p t constant n a b = (not (is_plain is_void a) && is_subtype p t a b) || is_fitting constant n (plain_of a) (plain_of b)
