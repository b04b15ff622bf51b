-- Types of expressions (JLS 15).
use Rattle.std.specs.Prelude.{◌≡◌, ◌⊎◌, ℕ, suc, ◌+◌, Bool, true, false, Option, Some, None}
use Rattle.jr_base.specs.declared.kind.Kind.{Kind}
use Rattle.jr_base.specs.declared.kind.Kind.TheVariants as token
use Rattle.jr_base.specs.declared.kind.Keyword.TheVariants as word
use Rattle.jr_base.specs.declared.kind.Symbol.{Symbol}
use Rattle.jr_base.specs.declared.kind.Symbol.TheVariants as y
use Rattle.jr_base.specs.declared.constant.Const.{Const}
use Rattle.jr_base.specs.declared.constant.Const.TheVariants as c
use Rattle.jr_tree.specs.declared.tree.Primitive.{Primitive}
use Rattle.jr_tree.specs.declared.label.Label.TheVariants as is
use Rattle.jr_tree.specs.declared.label.Role.TheVariants as role
use Rattle.jr_tree.specs.declared.label.ReceiverKind.{ReceiverKind}
use Rattle.jr_tree.specs.Rows.{Rows, label, parent, end, role_at}
use Rattle.jr_defs.specs.declared.referent.Element.{Element}
use Rattle.jr_defs.specs.declared.referent.Element.TheVariants as element
use Rattle.jr_defs.specs.declared.referent.RowType.{RowType}
use Rattle.jr_defs.specs.declared.referent.Referent.TheVariants.{ArrayLength, Declared}
use Rattle.jr_defs.specs.Referents.{Table}
use Rattle.jr_defs.specs.Declarations.{IsString, IsVariable}
use Rattle.jr_defs.specs.Types.{array, plain, class_type, element_of, NamesType, TypeAt, HasType}
use Rattle.jr_defs.specs.Supertypes.{IsReferenceType, Subtype}
use Rattle.jr_defs.specs.Instances.{HasInstance}
use Rattle.jr_defs.specs.Enclosing.{Innermost}
use Rattle.jr_defs.specs.Operators.{fits}
use Rattle.jr_defs.specs.Constants.{ConstantOf}
use Rattle.jr_defs.specs.Conversions.{IsIntegral, IsNumeric, IsPrimitive, Promotes, PromotesBoth, IsReferenceOrNull, IsCastable}

-- the type of a literal (JLS 15.8.1)
pub data LiteralType (p : Rows) : Kind → RowType → Type 0 where
  int : {z : _} → LiteralType p (token.Int z) (plain element.Int)
  least_int : LiteralType p token.IntMin (plain element.Int)
  long : {z : _} → LiteralType p (token.Long z) (plain element.Long)
  least_long : LiteralType p token.LongMin (plain element.Long)
  char : {n : ℕ} → LiteralType p (token.Char n) (plain element.Char)
  string : {units : _} {s : ℕ} → IsString p s → LiteralType p (token.Str units) (class_type s)
  yes_word : LiteralType p (token.Word word.True) (plain element.Boolean)
  no_word : LiteralType p (token.Word word.False) (plain element.Boolean)
  null : LiteralType p (token.Word word.Null) (plain element.Null)

-- ---- operators

pub data OperatorClass : Type 0 where
  plus : OperatorClass
  arithmetic : OperatorClass
  shift : OperatorClass
  comparison : OperatorClass
  equality : OperatorClass
  bitwise : OperatorClass
  logical : OperatorClass
  other : OperatorClass

abbrev pub class_of : Symbol → OperatorClass
class_of y.Plus = plus
class_of y.Minus = arithmetic
class_of y.Star = arithmetic
class_of y.Slash = arithmetic
class_of y.Percent = arithmetic
class_of y.ShiftLeft = shift
class_of y.ShiftRight = shift
class_of y.ShiftRightUnsigned = shift
class_of y.Less = comparison
class_of y.Greater = comparison
class_of y.LessEqual = comparison
class_of y.GreaterEqual = comparison
class_of y.Equal = equality
class_of y.NotEqual = equality
class_of y.And = bitwise
class_of y.Or = bitwise
class_of y.Caret = bitwise
class_of y.AndAnd = logical
class_of y.OrOr = logical
class_of _ = other

-- two operands that may be compared: numeric, boolean, or references or null of which one is castable to the other (JLS 15.21)
pub data IsComparable (p : Rows) (t : Table) : RowType → RowType → Type 0 where
  numbers : {a b : Element} → IsNumeric a → IsNumeric b → IsComparable p t (plain a) (plain b)
  booleans : IsComparable p t (plain element.Boolean) (plain element.Boolean)
  references : {a b : RowType} → IsReferenceOrNull a → IsReferenceOrNull b → IsCastable p t a b ⊎ IsCastable p t b a ⊎ (a ≡ b) → IsComparable p t a b

-- the type of an operator on operands of two types (JLS 15.17 to 15.24)
pub data BinaryType (p : Rows) (t : Table) : OperatorClass → RowType → RowType → RowType → Type 0 where
  sum : {a b r : Element} → PromotesBoth a b r → BinaryType p t plus (plain a) (plain b) (plain r)
  text_left : {s : ℕ} {b : RowType} → IsString p s → (b ≡ plain element.Void → ⊥) → BinaryType p t plus (class_type s) b (class_type s)
  text_right : {s : ℕ} {a : RowType} → IsString p s → (a ≡ plain element.Void → ⊥) → BinaryType p t plus a (class_type s) (class_type s)
  number : {a b r : Element} → PromotesBoth a b r → BinaryType p t arithmetic (plain a) (plain b) (plain r)
  shifted : {a b r : Element} → Promotes a r → IsNumeric b → BinaryType p t shift (plain a) (plain b) (plain r)
  compared : {a b : Element} → IsNumeric a → IsNumeric b → BinaryType p t comparison (plain a) (plain b) (plain element.Boolean)
  equated : {a b : RowType} → IsComparable p t a b → BinaryType p t equality a b (plain element.Boolean)
  bits : {a b r : Element} → PromotesBoth a b r → BinaryType p t bitwise (plain a) (plain b) (plain r)
  booleans : BinaryType p t bitwise (plain element.Boolean) (plain element.Boolean) (plain element.Boolean)
  tests : BinaryType p t logical (plain element.Boolean) (plain element.Boolean) (plain element.Boolean)

-- JLS 15.15.3 to 15.15.6
pub data UnaryType : Symbol → Element → Element → Type 0 where
  plus_sign : {a r : Element} → Promotes a r → UnaryType y.Plus a r
  minus_sign : {a r : Element} → Promotes a r → UnaryType y.Minus a r
  complement : {a r : Element} → Promotes a r → UnaryType y.Tilde a r
  negation : UnaryType y.Not element.Boolean element.Boolean

-- the operator within a compound assignment (JLS 15.26.2)
abbrev pub operator_of : Symbol → Option Symbol
operator_of y.PlusAssign = Some y.Plus
operator_of y.MinusAssign = Some y.Minus
operator_of y.StarAssign = Some y.Star
operator_of y.SlashAssign = Some y.Slash
operator_of y.PercentAssign = Some y.Percent
operator_of y.AndAssign = Some y.And
operator_of y.OrAssign = Some y.Or
operator_of y.CaretAssign = Some y.Caret
operator_of y.ShiftLeftAssign = Some y.ShiftLeft
operator_of y.ShiftRightAssign = Some y.ShiftRight
operator_of y.ShiftRightUnsignedAssign = Some y.ShiftRightUnsigned
operator_of _ = None

-- a compound assignment to a place of the type a: += to a String takes all but void, any other takes primitive operands, and its
-- result is cast back
pub data CompoundType (p : Rows) (t : Table) (op : Symbol) : RowType → RowType → Type 0 where
  text : {s : ℕ} {b : RowType} → op ≡ y.Plus → IsString p s → (b ≡ plain element.Void → ⊥) → CompoundType p t op (class_type s) b
  primitive : {a b r : Element} → IsPrimitive a → IsPrimitive b → BinaryType p t (class_of op) (plain a) (plain b) (plain r)
      → IsCastable p t (plain r) (plain a) → CompoundType p t op (plain a) (plain b)

-- ---- the conditional operator (JLS 15.25)

pub data IsSmall : Element → Type 0 where
  byte : IsSmall element.Byte
  short : IsSmall element.Short
  char : IsSmall element.Char

-- the operand k is a constant int that fits the type a
pub record FitsConstant (p : Rows) (t : Table) (K : ℕ → Type 0) (k : ℕ) (a : Element) : Type 0 where
  pub small : IsSmall a
  pub value : _
  pub constant : ConstantOf p t K k (c.Int value)
  pub fitting : fits a value ≡ true

-- the numeric types a and b have a type of their own: they are the same, byte and short, or one is that of a constant that fits the other
pub data HasOwnType (p : Rows) (t : Table) (K : ℕ → Type 0) (m k : ℕ) : Element → Element → Element → Type 0 where
  byte_short : HasOwnType p t K m k element.Byte element.Short element.Short
  short_byte : HasOwnType p t K m k element.Short element.Byte element.Short
  fits_left : {a : Element} → FitsConstant p t K k a → HasOwnType p t K m k a element.Int a
  fits_right : {b : Element} → FitsConstant p t K m b → HasOwnType p t K m k element.Int b b

-- the type of ?: where the second operand m has the type a and the third operand k has b
pub data ConditionalType (p : Rows) (t : Table) (K : ℕ → Type 0) (m k : ℕ) : RowType → RowType → RowType → Type 0 where
  same : {a : RowType} → (a ≡ plain element.Void → ⊥) → ConditionalType p t K m k a a a
  own : {a b r : Element} → HasOwnType p t K m k a b r → ConditionalType p t K m k (plain a) (plain b) (plain r)
  numbers : {a b r : Element} → (a ≡ b → ⊥) → ((e : Element) → HasOwnType p t K m k a b e → ⊥) → PromotesBoth a b r → ConditionalType p t K m k (plain a) (plain b) (plain r)
  null_left : {b : RowType} → IsReferenceType b → ConditionalType p t K m k (plain element.Null) b b
  null_right : {a : RowType} → IsReferenceType a → ConditionalType p t K m k a (plain element.Null) a
  wider_right : {a b : RowType} → IsReferenceType a → IsReferenceType b → Subtype p t a b → ConditionalType p t K m k a b b
  wider_left : {a b : RowType} → IsReferenceType a → IsReferenceType b → Subtype p t b a → ConditionalType p t K m k a b a

-- ---- expressions

-- the first, second and third child of a row
pub record First (p : Rows) (n m : ℕ) : Type 0 where
  pub at : m ≡ n + 1
  pub inside : parent p m ≡ n

pub record Second (p : Rows) (n m : ℕ) : Type 0 where
  pub at : m ≡ end p (n + 1)
  pub inside : parent p m ≡ n

pub record Third (p : Rows) (n m : ℕ) : Type 0 where
  pub at : m ≡ end p (end p (n + 1))
  pub inside : parent p m ≡ n

-- the expression n has the type; what stands at a reference follows from its target
pub data TypeOf (p : Rows) (t : Table) (K : ℕ → Type 0) : ℕ → RowType → Type 0 where
  literal : {n : ℕ} {token : Kind} {a : RowType} → label p n ≡ is.Literal token → LiteralType p token a → TypeOf p t K n a
  variable : {n d : ℕ} {level : Option ℕ} {a : RowType} → t n ≡ Declared d level → IsVariable p d → HasType p t d a → TypeOf p t K n a
  length : {n : ℕ} → t n ≡ ArrayLength → TypeOf p t K n (plain element.Int)
  call : {n d : ℕ} {receiver : ReceiverKind} {level : Option ℕ} {a : RowType} → label p n ≡ is.Call receiver → t n ≡ Declared d level → role_at p d ≡ role.Method
      → HasType p t d a → TypeOf p t K n a
  created : {n c : ℕ} → label p n ≡ is.New → NamesType p t n c → TypeOf p t K n (class_type c)
  primitives : {n lengths extra : ℕ} {e : Primitive} → label p n ≡ is.NewArray (Some e) lengths extra → TypeOf p t K n (array (element_of e) (lengths + extra))
  objects : {n c lengths extra : ℕ} → label p n ≡ is.NewArray None lengths extra → NamesType p t n c → TypeOf p t K n (array (element.Class c) (lengths + extra))
  cast : {n : ℕ} {a : RowType} → label p n ≡ is.Cast → parent p (n + 1) ≡ n → TypeAt p t (n + 1) a → TypeOf p t K n a
  paren : {n m : ℕ} {a : RowType} → label p n ≡ is.Paren → First p n m → TypeOf p t K m a → TypeOf p t K n a
  this : {n c : ℕ} → label p n ≡ is.This false → Innermost p n c → HasInstance p n c → TypeOf p t K n (class_type c)
  this_of : {n c : ℕ} → label p n ≡ is.This true → NamesType p t n c → HasInstance p n c → TypeOf p t K n (class_type c)
  index : {n m dims : ℕ} {e : Element} → label p n ≡ is.Index → First p n m → TypeOf p t K m (array e (suc dims)) → TypeOf p t K n (array e dims)
  is_a : {n m : ℕ} {a : RowType} → label p n ≡ is.IsA → First p n m → TypeOf p t K m a → IsReferenceOrNull a → TypeOf p t K n (plain element.Boolean)
  unary : {n m : ℕ} {op : Symbol} {a r : Element} → label p n ≡ is.Unary op → First p n m → TypeOf p t K m (plain a) → UnaryType op a r → TypeOf p t K n (plain r)
  pre_step : {n m : ℕ} {op : Symbol} {a : Element} → label p n ≡ is.PreStep op → First p n m → TypeOf p t K m (plain a) → IsNumeric a → TypeOf p t K n (plain a)
  post_step : {n m : ℕ} {op : Symbol} {a : Element} → label p n ≡ is.PostStep op → First p n m → TypeOf p t K m (plain a) → IsNumeric a → TypeOf p t K n (plain a)
  binary : {n m k : ℕ} {op : Symbol} {a b r : RowType} → label p n ≡ is.Binary op → First p n m → TypeOf p t K m a → Second p n k → TypeOf p t K k b
      → BinaryType p t (class_of op) a b r → TypeOf p t K n r
  conditional : {n l m k : ℕ} {a b r : RowType} → label p n ≡ is.Conditional → First p n l → TypeOf p t K l (plain element.Boolean)
      → Second p n m → TypeOf p t K m a → Third p n k → TypeOf p t K k b → ConditionalType p t K m k a b r → TypeOf p t K n r
  assigned : {n m : ℕ} {a : RowType} → label p n ≡ is.Assign y.Assign → First p n m → TypeOf p t K m a → TypeOf p t K n a
  compound : {n m k : ℕ} {sign op : Symbol} {a b : RowType} → label p n ≡ is.Assign sign → operator_of sign ≡ Some op → First p n m → TypeOf p t K m a
      → Second p n k → TypeOf p t K k b → CompoundType p t op a b → TypeOf p t K n a
