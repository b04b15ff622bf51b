-- The rules of compiling on types and static contexts, by their numbers in docs/LANGUAGE.md.
use Rattle.std.specs.Prelude.{ℕ}
use Rattle.jr_tree.specs.Rows.{Rows}
use Rattle.jr_defs.specs.Referents.{Table}
use Rattle.jr_rules.specs.Objects.{LacksObject}
use Rattle.jr_rules.specs.Initializing.{IsUsedTooEarly}
use Rattle.jr_rules.specs.Creations.{CallsItselfRound, AbstractIsUsed}
use Rattle.jr_rules.specs.Operands.{OperandsDoNotFit, IsNoVariable, CastIsNotAllowed, BranchesAreUnrelated}
use Rattle.jr_rules.specs.Statements.{IsNotThrowable, ConditionIsNotBoolean, SwitchDoesNotFit, ReturnDoesNotFit, HasNoTarget}
use Rattle.jr_rules.specs.Places.{ValueDoesNotFit, VoidIsUsed, ArrayDoesNotFit}

-- the rule is broken at the row
pub data BreaksTypes (p : Rows) (t : Table) : ℕ → ℕ → Type 0 where
  lacks_object : {n : ℕ} → LacksObject p t n → BreaksTypes p t 11 n
  used_too_early : {n : ℕ} → IsUsedTooEarly p t n → BreaksTypes p t 12 n
  calls_itself_round : {n : ℕ} → CallsItselfRound p t n → BreaksTypes p t 22 n
  not_throwable : {n : ℕ} → IsNotThrowable p t n → BreaksTypes p t 23 n
  operands : {n : ℕ} → OperandsDoNotFit p t n → BreaksTypes p t 24 n
  value : {n : ℕ} → ValueDoesNotFit p t n → BreaksTypes p t 25 n
  no_variable : {n : ℕ} → IsNoVariable p t n → BreaksTypes p t 26 n
  cast : {n : ℕ} → CastIsNotAllowed p t n → BreaksTypes p t 27 n
  condition : {n : ℕ} → ConditionIsNotBoolean p t n → BreaksTypes p t 28 n
  switch : {n : ℕ} → SwitchDoesNotFit p t n → BreaksTypes p t 29 n
  void : {n : ℕ} → VoidIsUsed p t n → BreaksTypes p t 30 n
  returns : {n : ℕ} → ReturnDoesNotFit p t n → BreaksTypes p t 31 n
  abstracts : {n : ℕ} → AbstractIsUsed p t n → BreaksTypes p t 32 n
  array : {n : ℕ} → ArrayDoesNotFit p t n → BreaksTypes p t 33 n
  jump : {n : ℕ} → HasNoTarget p t n → BreaksTypes p t 34 n
  branches : {n : ℕ} → BranchesAreUnrelated p t n → BreaksTypes p t 35 n
