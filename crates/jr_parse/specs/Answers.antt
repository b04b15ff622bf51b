-- What parsing answers, in the words of the grammar alone.
use Rattle.std.specs.Prelude.{◌≡◌, ℕ, ◌+◌, ◌<◌, ◌≤◌, List, ◌++◌, length, take, Result, Ok, Err}
use Rattle.jr_base.specs.declared.kind.Kind.{Kind}
use Rattle.jr_tree.specs.declared.tree.Unit as declared
use Rattle.jr_tree.specs.Tokens.{tokens_of}
use Rattle.jr_tree.specs.Shape.{IsShaped}
use Rattle.jr_tree.specs.Depth.{depth}
use Rattle.jr_parse.specs.declared.fault.ParseFault.{ParseFault}
use Rattle.jr_parse.specs.declared.fault.ParseFault.TheVariants.{NoTree, TooDeep, OutOfMemory}

-- a reading of the tokens, of at most so many levels
pub record IsReading (most : ℕ) (unit : declared.Unit) (kinds : List Kind) : Type 0 where
  pub shaped : IsShaped unit
  pub low : depth unit ≤ most
  pub written : tokens_of unit ≡ kinds

-- some unit of at most so many levels begins with these tokens
abbrev pub Begins : ℕ → List Kind → Type 0
Begins most front = (unit : declared.Unit) × (rest : List Kind) × IsReading most unit (front ++ rest)

-- the first token with which no unit begins, or the end, where none ends
pub record IsFirstFault (most : ℕ) (kinds : List Kind) (at : ℕ) : Type 0 where
  pub within : at ≤ length kinds
  pub before : Begins most (take at kinds)
  pub through : at < length kinds → Begins most (take (at + 1) kinds) → ⊥
  pub whole : at ≡ length kinds → (unit : declared.Unit) → IsReading most unit kinds → ⊥

-- no unit of any depth serves
pub record IsNoTree (most : ℕ) (kinds : List Kind) (at : ℕ) : Type 0 where
  pub first : IsFirstFault most kinds at
  pub through : (any : ℕ) → at < length kinds → Begins any (take (at + 1) kinds) → ⊥
  pub whole : (any : ℕ) → at ≡ length kinds → (unit : declared.Unit) → IsReading any unit kinds → ⊥

-- a deeper one does
pub record IsTooDeep (most : ℕ) (kinds : List Kind) (at : ℕ) : Type 0 where
  pub first : IsFirstFault most kinds at
  pub within : at < length kinds
  pub deeper : (any : ℕ) × Begins any (take (at + 1) kinds)

-- want of memory is free
abbrev pub Answers : ℕ → List Kind → Result declared.Unit ParseFault → Type 0
Answers most kinds (Ok unit) = IsReading most unit kinds
Answers most kinds (Err (NoTree at)) = IsNoTree most kinds at
Answers most kinds (Err (TooDeep at)) = IsTooDeep most kinds at
Answers most kinds (Err OutOfMemory) = Unit {0}
