-- What it means that the rules leave no expression without a type unless a part of it has none.
use Rattle.std.specs.Prelude.{◌⊎◌, ◌≡◌, ℕ, ◌+◌, true, false}
use Rattle.jr_base.specs.declared.kind.Symbol.TheVariants as y
use Rattle.jr_tree.specs.declared.label.Label.TheVariants as is
use Rattle.jr_tree.specs.Rows.{Rows, label, end}
use Rattle.jr_defs.specs.declared.referent.RowType.{RowType}
use Rattle.jr_defs.specs.Referents.{Table}
use Rattle.jr_defs.specs.Enclosing.{Innermost}
use Rattle.jr_defs.specs.Types.{NamesType}
use Rattle.jr_rules.specs.Typed.{Typed, FirstOf, SecondOf, ThirdOf, TypeBelow}
use Rattle.jr_rules.specs.Operands.{TakesOne, TakesTwo}
use Rattle.jr_rules.specs.TypeRules.{BreaksTypes}

-- what the operands, the names and the written types in the expression n are to have, by its form, is there
pub data HasTypedParts (p : Rows) (t : Table) (n : ℕ) : Type 0 where
  of_one : {a : RowType} → TakesOne (label p n) → FirstOf p t n a → HasTypedParts p t n
  of_two : {a b : RowType} → TakesTwo (label p n) → FirstOf p t n a → SecondOf p t n b → HasTypedParts p t n
  of_three : {a b r : RowType} → label p n ≡ is.Conditional → FirstOf p t n a → SecondOf p t n b → ThirdOf p t n r → HasTypedParts p t n
  of_assignment : {a : RowType} → label p n ≡ is.Assign y.Assign → FirstOf p t n a → HasTypedParts p t n
  of_parentheses : {a : RowType} → label p n ≡ is.Paren → FirstOf p t n a → HasTypedParts p t n
  of_index : {a : RowType} → label p n ≡ is.Index → FirstOf p t n a → HasTypedParts p t n
  of_cast : {a : RowType} → label p n ≡ is.Cast → TypeBelow p t n (n + 1) a → HasTypedParts p t n
  of_test : {a b : RowType} → label p n ≡ is.IsA → FirstOf p t n a → TypeBelow p t n (end p (n + 1)) b → HasTypedParts p t n
  of_this : {c : ℕ} → label p n ≡ is.This false → Innermost p n c → HasTypedParts p t n
  of_this_of : {c : ℕ} → label p n ≡ is.This true → NamesType p t n c → HasTypedParts p t n

-- a rule is broken at the row, or at its first child
pub record BreaksThere (p : Rows) (t : Table) (n : ℕ) : Type 0 where
  pub rule : ℕ
  pub place : ℕ
  pub near : (place ≡ n) ⊎ (place ≡ n + 1)
  pub breaks : BreaksTypes p t rule place

-- the expression has a type, or a rule is broken there
abbrev pub IsTypedOrBreaks : Rows → Table → ℕ → Type 0
IsTypedOrBreaks p t n = ((a : RowType) × Typed p t n a) ⊎ BreaksThere p t n
