-- What the steps of reading an input come to.
use Rattle.std.specs.Prelude.{◌≡◌, ℕ, ◌+◌, ◌<◌, ◌≤◌, List, ◌++◌, length, Option, Result, Ok, Err, Vec, ⊤}
use Rattle.std.specs.Io.KnownBytes.{Consumes, IsAtEnd, Keeps}
use Rattle.std.specs.declared.alloc.Global.{Global}
use Rattle.jr_base.specs.declared.limits.TheConstants.Limits.{INPUT}
use Rattle.jr_base.specs.declared.request.Request.{Request}
use Rattle.jr_request.specs.Input.{plain_answer, IsInputAnswer}
use Rattle.jr_request.specs.declared.input_fault.BatchFault.{BatchFault}
use Rattle.jr_request.specs.declared.input_fault.BatchFault.TheVariants.{SourceFault, OutOfMemory}

-- one byte more than a batch may have
abbrev pub most_read : ℕ
most_read = INPUT + 1

-- a source has lost at most so many bytes
abbrev pub LosesPart : ℕ → Option (List ℕ) → Option (List ℕ) → Type 0
LosesPart most old new = (part : List ℕ) × (length part ≤ most) × Consumes old new part

-- so many bytes are taken from the source and put to the end of those read before
pub record Extends (old new : Option (List ℕ)) (room : ℕ) (before after : List ℕ) (count : ℕ) : Type 0 where
  pub part : List ℕ
  pub all : after ≡ before ++ part
  pub long : length part ≡ count
  pub fits : count ≤ room
  pub taken : Consumes old new part
  pub end : count ≡ 0 → IsAtEnd new

-- what one read comes to
abbrev pub ReadsPart : Option (List ℕ) → Option (List ℕ) → ℕ → List ℕ → List ℕ → Result ℕ BatchFault → Type 0
ReadsPart old new room before after (Ok count) = Extends old new room before after count
ReadsPart old new room before after (Err SourceFault) = Keeps old new
ReadsPart old new room before after (Err OutOfMemory) = LosesPart room old new
ReadsPart old new room before after (Err other) = ⊥

-- these bytes are the front of what the source had: so many, or all
pub record IsFront (most : ℕ) (old new : Option (List ℕ)) (bytes : List ℕ) : Type 0 where
  pub taken : Consumes old new bytes
  pub fits : length bytes ≤ most
  pub end : length bytes < most → IsAtEnd new

-- what reading the front of a source comes to
abbrev pub TakesFront : ℕ → Option (List ℕ) → Option (List ℕ) → Result (Vec ℕ Global) BatchFault → Type 0
TakesFront most old new (Ok bytes) = IsFront most old new bytes.items
TakesFront most old new (Err SourceFault) = LosesPart most old new
TakesFront most old new (Err OutOfMemory) = LosesPart most old new
TakesFront most old new (Err other) = ⊥

-- what is read is the answer of the bytes, unless memory was refused
abbrev pub AnswersBytes : List ℕ → Result (Vec Request Global) BatchFault → Type 0
AnswersBytes bytes (Err OutOfMemory) = ⊤
AnswersBytes bytes result = IsInputAnswer bytes (plain_answer result)
