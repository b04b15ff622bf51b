-- The law of tokens: those of units that files read as stand apart, where the prelude is there and no file is too large.
use Rattle.std.specs.Prelude.{ℕ, ◌<◌, ◌≤◌, ◌^◌, List, length}
use Rattle.std.specs.List.{AllByRecursion}
use Rattle.jr_base.specs.Reading.{Lex}
use Rattle.jr_base.specs.declared.token.Token.{Token}
use Rattle.jr_defs.specs.declared.program.UnitAt.{UnitAt}
use Rattle.jr_defs.specs.Program.{AreUnitsOf}
use Rattle.jr_marks.specs.Made.{HaveTokensApart}
use Rattle.jr_marks.specs.Places.{AreApart}

-- the tokens of a text stand apart, and are no more than its bytes
pub record HasTokensApart (bytes : List ℕ) (tokens : List Token) : Type 0 where
  pub apart : AreApart tokens
  pub few : length tokens ≤ length bytes

abbrev pub TokensStandApart : Type 0
TokensStandApart = (bytes : List ℕ) (tokens : List Token) → Lex bytes tokens → HasTokensApart bytes tokens

abbrev pub UnitsHaveTokensApart : Type 0
UnitsHaveTokensApart = (found : List (List ℕ × List ℕ)) (units : List UnitAt) → AreUnitsOf found units → AllByRecursion (λ file. length file.1 < 2 ^ 32) found → 2 ≤ length found
    → HaveTokensApart units
