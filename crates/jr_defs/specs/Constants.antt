-- Constant expressions and constant variables with their values (JLS 4.12.4, 15.28).
use Rattle.std.specs.Prelude.{◌≡◌, ◌⊎◌, ℕ, ◌+◌, Bool, true, false, ℤ, pos, negsuc, Option, Some, None, ◌^◌, ◌-◌}
use Rattle.jr_base.specs.declared.kind.Kind.{Kind}
use Rattle.jr_base.specs.declared.kind.Kind.TheVariants as token
use Rattle.jr_base.specs.declared.kind.Keyword.TheVariants as word
use Rattle.jr_base.specs.declared.kind.Symbol.{Symbol}
use Rattle.jr_base.specs.declared.constant.Const.{Const}
use Rattle.jr_base.specs.declared.constant.Const.TheVariants as c
use Rattle.jr_tree.specs.declared.label.Label.TheVariants as is
use Rattle.jr_tree.specs.declared.label.NameKind.TheVariants as kind
use Rattle.jr_tree.specs.declared.label.Sought.{Sought}
use Rattle.jr_tree.specs.declared.label.Sought.TheVariants as sought
use Rattle.jr_tree.specs.Rows.{Rows, label, parent, end, sought_at}
use Rattle.jr_defs.specs.declared.referent.Element.{Element}
use Rattle.jr_defs.specs.declared.referent.Element.TheVariants as element
use Rattle.jr_defs.specs.declared.referent.RowType.{RowType}
use Rattle.jr_defs.specs.declared.referent.Referent.TheVariants.{Declared}
use Rattle.jr_defs.specs.Referents.{Table}
use Rattle.jr_defs.specs.Declarations.{IsString, IsVariable}
use Rattle.jr_defs.specs.Modifiers.{IsFinal}
use Rattle.jr_defs.specs.Types.{plain, class_type, TypeAt, HasType, NamesType}
use Rattle.jr_defs.specs.Operators.{cast_to, assigned_to, unary_value, binary_value, chosen}

-- the value of a literal; null has none (JLS 15.8.1)
abbrev pub literal_value : Kind → Option Const
literal_value (token.Int z) = Some (c.Int z)
literal_value token.IntMin = Some (c.Int (negsuc (2 ^ 31 - 1)))
literal_value (token.Long z) = Some (c.Long z)
literal_value token.LongMin = Some (c.Long (negsuc (2 ^ 63 - 1)))
literal_value (token.Char n) = Some (c.Char n)
literal_value (token.Str units) = Some (c.Str units)
literal_value (token.Word word.True) = Some (c.Bool true)
literal_value (token.Word word.False) = Some (c.Bool false)
literal_value _ = None

-- a value as one of a type, by a conversion of primitive types or as the same string (JLS 5.2, 5.5)
pub data Converts (p : Rows) (via : Element → Const → Option Const) (v w : Const) : RowType → Type 0 where
  primitive : {e : Element} → via e v ≡ Some w → Converts p via v w (plain e)
  string : {s : ℕ} {units : _} → IsString p s → v ≡ c.Str units → w ≡ v → Converts p via v w (class_type s)

-- the constants of the program, where the references of K alone are read as constants
mutual
  -- the expression n is constant, with the value
  pub data ConstantOf (p : Rows) (t : Table) (K : ℕ → Type 0) : ℕ → Const → Type 0 where
    literal : {n : ℕ} {token : Kind} {v : Const} → label p n ≡ is.Literal token → literal_value token ≡ Some v → ConstantOf p t K n v
    reference : {n d : ℕ} {level : Option ℕ} {v : Const} → K n → t n ≡ Declared d level → ConstantVariable p t K d v → ConstantOf p t K n v
    paren : {n : ℕ} {v : Const} → label p n ≡ is.Paren → parent p (n + 1) ≡ n → ConstantOf p t K (n + 1) v → ConstantOf p t K n v
    cast : {n : ℕ} {a : RowType} {v w : Const} → label p n ≡ is.Cast → parent p (n + 1) ≡ n → TypeAt p t (n + 1) a → parent p (end p (n + 1)) ≡ n → ConstantOf p t K (end p (n + 1)) v
        → Converts p cast_to v w a → ConstantOf p t K n w
    unary : {n : ℕ} {op : Symbol} {v w : Const} → label p n ≡ is.Unary op → parent p (n + 1) ≡ n → ConstantOf p t K (n + 1) v → unary_value op v ≡ Some w
        → ConstantOf p t K n w
    binary : {n : ℕ} {op : Symbol} {u v w : Const} → label p n ≡ is.Binary op → parent p (n + 1) ≡ n → ConstantOf p t K (n + 1) u
        → parent p (end p (n + 1)) ≡ n → ConstantOf p t K (end p (n + 1)) v → binary_value op u v ≡ Some w → ConstantOf p t K n w
    conditional : {n : ℕ} {test : Bool} {u v w : Const} → label p n ≡ is.Conditional → parent p (n + 1) ≡ n → ConstantOf p t K (n + 1) (c.Bool test)
        → parent p (end p (n + 1)) ≡ n → ConstantOf p t K (end p (n + 1)) u
        → parent p (end p (end p (n + 1))) ≡ n → ConstantOf p t K (end p (end p (n + 1))) v → chosen test u v ≡ Some w → ConstantOf p t K n w

  -- the variable d is final and is initialized with a constant expression of a primitive type or String, which gives it the value
  pub data ConstantVariable (p : Rows) (t : Table) (K : ℕ → Type 0) : ℕ → Const → Type 0 where
    variable : {d : ℕ} {a : RowType} {v w : Const} → IsVariable p d → IsFinal p d → HasType p t d a → parent p (d + 1) ≡ d → label p (d + 1) ≡ is.Value
        → parent p (d + 2) ≡ d + 1 → ConstantOf p t K (d + 2) v → Converts p assigned_to v w a → ConstantVariable p t K d w

-- a reference that may be constant by its form: a simple name, or TypeName.Identifier (JLS 15.28)
pub data HasConstantForm (p : Rows) (t : Table) : ℕ → Type 0 where
  simple : {n : ℕ} → sought_at p n ≡ sought.Simple kind.Variable → HasConstantForm p t n
  of_type : {n b : ℕ} → sought_at p n ≡ sought.Qualified kind.Variable → NamesType p t n b → HasConstantForm p t n

-- the constant expressions of a program under its table
abbrev pub Constant : Rows → Table → ℕ → Const → Type 0
Constant p t n v = ConstantOf p t (HasConstantForm p t) n v
