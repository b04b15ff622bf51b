-- Rules 24, 26, 27 and 35: operands, what is assigned to, casts and branches (JLS 15.14 to 15.26).
use Rattle.std.specs.Prelude.{◌≡◌, ℕ, ◌+◌, Option}
use Rattle.jr_base.specs.declared.kind.Symbol.{Symbol}
use Rattle.jr_base.specs.declared.kind.Symbol.TheVariants as y
use Rattle.jr_tree.specs.declared.label.Label.{Label}
use Rattle.jr_tree.specs.declared.label.Label.TheVariants as is
use Rattle.jr_tree.specs.Rows.{Rows, label, parent, end}
use Rattle.jr_defs.specs.declared.referent.RowType.{RowType}
use Rattle.jr_defs.specs.declared.referent.Referent.TheVariants.{Declared}
use Rattle.jr_defs.specs.Referents.{Table}
use Rattle.jr_defs.specs.Declarations.{IsVariable}
use Rattle.jr_defs.specs.Supertypes.{IsReferenceType, Subtype}
use Rattle.jr_defs.specs.Constants.{HasConstantForm}
use Rattle.jr_defs.specs.Conversions.{IsReferenceOrNull, IsCastable}
use Rattle.jr_defs.specs.Typing.{ConditionalType}
use Rattle.jr_rules.specs.Typed.{Typed, FirstOf, SecondOf, ThirdOf, TypeBelow}

-- operators on one operand
abbrev pub TakesOne : Label → Type 0
TakesOne (is.Unary op) = Unit {0}
TakesOne (is.PreStep op) = Unit {0}
TakesOne (is.PostStep op) = Unit {0}
TakesOne _ = ⊥

-- the operators of assignment that take the value of their left side
abbrev pub IsCompound : Symbol → Type 0
IsCompound y.Assign = ⊥
IsCompound _ = Unit {0}

-- operators on two operands, compound assignments among them
abbrev pub TakesTwo : Label → Type 0
TakesTwo (is.Binary op) = Unit {0}
TakesTwo (is.Assign op) = IsCompound op
TakesTwo _ = ⊥

-- the expression has no type
abbrev pub HasNoType : Rows → Table → ℕ → Type 0
HasNoType p t n = (a : RowType) → Typed p t n a → ⊥

-- no type is one of ?: with operands of the types a and b at its second and third place
abbrev pub HaveNoType : Rows → Table → ℕ → RowType → RowType → Type 0
HaveNoType p t n a b = (r : RowType) → ConditionalType p t (HasConstantForm p t) (end p (n + 1)) (end p (end p (n + 1))) a b r → ⊥

-- rule 24: an operator whose operands have types gives none for them; of ?: on two references rule 35 speaks
pub data OperandsDoNotFit (p : Rows) (t : Table) (n : ℕ) : Type 0 where
  one_operand : {a : RowType} → TakesOne (label p n) → FirstOf p t n a → HasNoType p t n → OperandsDoNotFit p t n
  two_operands : {a b : RowType} → TakesTwo (label p n) → FirstOf p t n a → SecondOf p t n b → HasNoType p t n → OperandsDoNotFit p t n
  two_branches : {a b : RowType} → label p n ≡ is.Conditional → SecondOf p t n a → ThirdOf p t n b → (IsReferenceType a × IsReferenceType b → ⊥) → HaveNoType p t n a b
      → OperandsDoNotFit p t n

-- an expression that denotes a variable: a name or field access that refers to one, a component of an array, or one of these in parentheses (JLS 15.8.5, 15.11, 15.13)
pub data DenotesVariable (p : Rows) (t : Table) : ℕ → Type 0 where
  named_variable : {n d : ℕ} {level : Option ℕ} → t n ≡ Declared d level → IsVariable p d → DenotesVariable p t n
  component : {n : ℕ} → label p n ≡ is.Index → DenotesVariable p t n
  in_parentheses : {n : ℕ} → label p n ≡ is.Paren → parent p (n + 1) ≡ n → DenotesVariable p t (n + 1) → DenotesVariable p t n

-- what changes its first operand
abbrev pub ChangesFirst : Label → Type 0
ChangesFirst (is.Assign op) = Unit {0}
ChangesFirst (is.PreStep op) = Unit {0}
ChangesFirst (is.PostStep op) = Unit {0}
ChangesFirst _ = ⊥

-- rule 26: what is assigned to or stepped is no variable; the length of an array is none
pub record IsNoVariable (p : Rows) (t : Table) (n : ℕ) : Type 0 where
  pub changed : ChangesFirst (label p (parent p n))
  pub operand : n ≡ parent p n + 1
  pub no_variable : DenotesVariable p t n → ⊥

-- rule 27: a cast that is not allowed, or an `instanceof` of no reference or whose cast is not allowed (JLS 15.16, 15.20.2)
pub data CastIsNotAllowed (p : Rows) (t : Table) (n : ℕ) : Type 0 where
  of_cast : {a b : RowType} → label p n ≡ is.Cast → TypeBelow p t n (n + 1) b → SecondOf p t n a → (IsCastable p t a b → ⊥) → CastIsNotAllowed p t n
  of_test : {a b : RowType} → label p n ≡ is.IsA → FirstOf p t n a → TypeBelow p t n (end p (n + 1)) b → (IsReferenceOrNull a × IsCastable p t a b → ⊥) → CastIsNotAllowed p t n

-- rule 35: two reference branches of ?: of which neither is assignable to the other (JLS 15.25)
pub record BranchesAreUnrelated (p : Rows) (t : Table) (n : ℕ) : Type 0 where
  pub conditional : label p n ≡ is.Conditional
  pub left : RowType
  pub right : RowType
  pub second : SecondOf p t n left
  pub third : ThirdOf p t n right
  pub references : IsReferenceType left × IsReferenceType right
  pub unrelated : (Subtype p t left right → ⊥) × (Subtype p t right left → ⊥)
