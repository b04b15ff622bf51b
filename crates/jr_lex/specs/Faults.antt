-- Where bytes have no tokens, and why.
use Rattle.std.specs.Prelude.{◌≡◌, ℕ, List, drop}
use Rattle.std.specs.Str.{IsValidUpTo}
use Rattle.jr_base.specs.Reading.{StopsAt, HasOpenComment, HasBadEscape, HasOpenLiteral, HasBadNumber, HasBadByte}
use Rattle.jr_lex.specs.declared.fault.LexFault.{LexFault}
use Rattle.jr_lex.specs.declared.fault.LexFault.TheVariants.{BadByte, OpenComment, OpenLiteral, BadEscape, BadNumber, NotUtf8, OutOfMemory}

-- the fault tells the shape of the text that begins at the place; want of memory tells nothing
abbrev pub Tells : List ℕ → ℕ → LexFault → Type 0
Tells text place (BadByte at) = (at ≡ place) × HasBadByte text
Tells text place (OpenComment at) = (at ≡ place) × HasOpenComment text
Tells text place (OpenLiteral at) = (at ≡ place) × HasOpenLiteral text
Tells text place (BadEscape at) = (at ≡ place) × HasBadEscape text
Tells text place (BadNumber at) = (at ≡ place) × HasBadNumber text
Tells text place (NotUtf8 at) = ⊥
Tells text place OutOfMemory = Unit {0}

-- the fault tells the shape at the place where the reading of the bytes stops
pub record IsStop (bytes : List ℕ) (place : ℕ) (fault : LexFault) : Type 0 where
  pub stops : StopsAt bytes place
  pub tells : Tells (drop place bytes) place fault

-- what a fault says of the bytes
abbrev pub IsFirstFault : List ℕ → LexFault → Type 0
IsFirstFault bytes (BadByte at) = IsStop bytes at (BadByte at)
IsFirstFault bytes (OpenComment at) = IsStop bytes at (OpenComment at)
IsFirstFault bytes (OpenLiteral at) = IsStop bytes at (OpenLiteral at)
IsFirstFault bytes (BadEscape at) = IsStop bytes at (BadEscape at)
IsFirstFault bytes (BadNumber at) = IsStop bytes at (BadNumber at)
IsFirstFault bytes (NotUtf8 at) = IsValidUpTo bytes at
IsFirstFault bytes OutOfMemory = Unit {0}

abbrev pub IsMemory : LexFault → Type 0
IsMemory OutOfMemory = Unit {0}
IsMemory fault = ⊥
