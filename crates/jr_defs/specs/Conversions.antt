-- Promotion, assignment and casts (JLS 5.2, 5.5, 5.6).
use Rattle.std.specs.Prelude.{◌≡◌, ◌⊎◌, ℕ, suc, Option, Some}
use Rattle.jr_base.specs.declared.constant.Const.{Const}
use Rattle.jr_tree.specs.Rows.{Rows}
use Rattle.jr_defs.specs.declared.referent.Element.{Element}
use Rattle.jr_defs.specs.declared.referent.Element.TheVariants as element
use Rattle.jr_defs.specs.declared.referent.RowType.{RowType}
use Rattle.jr_defs.specs.Referents.{Table}
use Rattle.jr_defs.specs.Declarations.{IsClass, IsInterface, IsObject}
use Rattle.jr_defs.specs.Modifiers.{IsFinal}
use Rattle.jr_defs.specs.Types.{array, plain, class_type}
use Rattle.jr_defs.specs.Supertypes.{IsReferenceType, Subtype}
use Rattle.jr_defs.specs.Operators.{assigned_to}
use Rattle.jr_defs.specs.Constants.{ConstantOf}

-- byte, short, char and int
abbrev pub IsIntegral : Element → Type 0
IsIntegral element.Byte = Unit {0}
IsIntegral element.Short = Unit {0}
IsIntegral element.Char = Unit {0}
IsIntegral element.Int = Unit {0}
IsIntegral _ = ⊥

-- those and long (JLS 4.2.1)
abbrev pub IsNumeric : Element → Type 0
IsNumeric element.Long = Unit {0}
IsNumeric e = IsIntegral e

-- boolean and the numeric types (JLS 4.2)
abbrev pub IsPrimitive : Element → Type 0
IsPrimitive element.Boolean = Unit {0}
IsPrimitive e = IsNumeric e

-- the type of one promoted operand, and of two (JLS 5.6.1, 5.6.2)
pub data Promotes : Element → Element → Type 0 where
  int : {a : Element} → IsIntegral a → Promotes a element.Int
  long : Promotes element.Long element.Long

pub data PromotesBoth : Element → Element → Element → Type 0 where
  int : {a b : Element} → IsIntegral a → IsIntegral b → PromotesBoth a b element.Int
  left : {b : Element} → IsNumeric b → PromotesBoth element.Long b element.Long
  right : {a : Element} → IsNumeric a → PromotesBoth a element.Long element.Long

-- class, interface and array types, and that of null
abbrev pub IsReferenceOrNull : RowType → Type 0
IsReferenceOrNull a = IsReferenceType a ⊎ (a ≡ plain element.Null)

-- a cast from a to b is allowed (JLS 5.5)
pub data IsCastable (p : Rows) (t : Table) : RowType → RowType → Type 0 where
  numbers : {a b : Element} → IsNumeric a → IsNumeric b → IsCastable p t (plain a) (plain b)
  booleans : IsCastable p t (plain element.Boolean) (plain element.Boolean)
  wider : {a b : RowType} → IsReferenceOrNull a → IsReferenceType b → Subtype p t a b → IsCastable p t a b
  narrower : {a b : RowType} → IsReferenceType a → IsReferenceType b → Subtype p t b a → IsCastable p t a b
  interface_class : {c d : ℕ} → IsInterface p c → IsClass p d → (IsFinal p d → ⊥) → IsCastable p t (class_type c) (class_type d)
  class_interface : {c d : ℕ} → IsClass p c → (IsFinal p c → ⊥) → IsInterface p d → IsCastable p t (class_type c) (class_type d)
  interfaces : {c d : ℕ} → IsInterface p c → IsInterface p d → IsCastable p t (class_type c) (class_type d)
  arrays : {a b : Element} {m n : ℕ} → IsReferenceType (array a m) → IsReferenceType (array b n) → IsCastable p t (array a m) (array b n)
      → IsCastable p t (array a (suc m)) (array b (suc n))

-- an expression of the type a may be assigned to a place of the type b: by widening, or as a constant that fits (JLS 5.2)
pub data IsAssignable (p : Rows) (t : Table) (K : ℕ → Type 0) (n : ℕ) : RowType → RowType → Type 0 where
  widening : {a b : RowType} → (a ≡ plain element.Void → ⊥) → Subtype p t a b → IsAssignable p t K n a b
  fitting : {a b : Element} {v w : Const} → IsIntegral a → IsIntegral b → ConstantOf p t K n v → assigned_to b v ≡ Some w → IsAssignable p t K n (plain a) (plain b)
