-- Laws of reading.
use Rattle.std.specs.Prelude.{◌≡◌, ℕ, ◌<◌, ◌≤◌, List, [], ◌∷◌, length}
use Rattle.jr_base.specs.Reading.{Lex}
use Rattle.jr_base.specs.declared.token.Token.{Token}

-- bytes have one list of tokens
abbrev pub OneReading : Type 0
OneReading = (bytes : List ℕ) (ts us : List Token) → Lex bytes ts → Lex bytes us → ts ≡ us

-- from one place to another the tokens stand one behind another, and none is empty
abbrev pub Rising : ℕ → List Token → ℕ → Type 0
Rising from [] to = from ≤ to
Rising from (t ∷ ts) to = (from ≤ t.span.start) × (t.span.start < t.span.end) × Rising t.span.end ts to

-- spans rise, and lie within the bytes
abbrev pub SpansRise : Type 0
SpansRise = (bytes : List ℕ) (ts : List Token) → Lex bytes ts → Rising 0 ts (length bytes)
