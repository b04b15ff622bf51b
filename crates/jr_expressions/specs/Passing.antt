-- Arguments and lengths, as they are taken off one by one.
use Rattle.std.specs.Prelude.{◌≡◌, ℕ, List, [], ◌∷◌, ◌++◌, length, Some}
use Rattle.jr_core.specs.declared.code.Code.{Code}
use Rattle.jr_defs.specs.declared.referent.RowType.{RowType}
use Rattle.jr_codes.specs.declared.source.Source.{Source}
use Rattle.jr_codes.specs.Facts.{Facts}
use Rattle.jr_codes.specs.Making.{Below, Parted}
use Rattle.jr_codes.specs.Conversions.{Converts, int}
use Rattle.jr_expressions.specs.Calls.{arguments}
use Rattle.jr_expressions.specs.Expressions.{lengths}
use Rattle.jr_supers.specs.Signatures.{AreSignatures, nth_of}
use Rattle.jr_codes.specs.Reads.{rows_of, table_of, signatures_of, facts}

-- the first part, which is that of this row, becomes the next argument
pub record AddsArgument (s : Source) (m row : ℕ) (old new : Below) (before after : List Code) : Type 0 where
  pub to : RowType
  pub made : Code
  pub wanted : AreSignatures (rows_of s) (table_of s) (signatures_of s) → nth_of ((facts s).parameters m) (length before) ≡ Some to
  pub takes : Converts (facts s) row to old new made
  pub adds : after ≡ before ++ made ∷ []

-- the arguments are those of these parts, and the rest is left
pub record AreArguments (s : Source) (m : ℕ) (parts rest left : Below) (all : List Code) : Type 0 where
  pub leaves : left ≡ rest
  pub is : arguments (facts s) m parts ≡ Some all

-- the parts of the rows before this one become arguments
pub record TakesArguments (s : Source) (m end : ℕ) (old new : Below) (all : List Code) : Type 0 where
  pub each : AreSignatures (rows_of s) (table_of s) (signatures_of s) → (parts rest : Below) → Parted end old parts rest → AreArguments s m parts rest new all

-- the first part, which is that of this row, becomes the next length
pub record AddsLength (f : Facts) (row : ℕ) (old new : Below) (before after : List Code) : Type 0 where
  pub made : Code
  pub takes : Converts f row int old new made
  pub adds : after ≡ before ++ made ∷ []

pub record AreLengths (f : Facts) (parts rest left : Below) (all : List Code) : Type 0 where
  pub leaves : left ≡ rest
  pub is : lengths f parts ≡ Some all

-- the parts of the rows before this one become lengths
pub record TakesLengths (f : Facts) (end : ℕ) (old new : Below) (all : List Code) : Type 0 where
  pub each : (parts rest : Below) → Parted end old parts rest → AreLengths f parts rest new all
