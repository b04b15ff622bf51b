-- What calls of a sink do to the bytes that were written to it, where they are told.
use Rattle.std.specs.Prelude.{◌≡◌, ℕ, List, ◌++◌, Option, Result, MatchResult}
use Rattle.std.specs.Io.KnownBytes.{Appends}

-- the bytes grow by a prefix of these
abbrev pub AppendsPart : Option (List ℕ) → Option (List ℕ) → List ℕ → Type 0
AppendsPart old new bytes = (part : List ℕ) × (rest : List ℕ) × (bytes ≡ part ++ rest) × Appends old new part

-- Ok appends all the bytes, and Failed a prefix of them
abbrev pub WritesAll : {T E : Type 0} → Option (List ℕ) → Option (List ℕ) → Result T E → List ℕ → Type 0
WritesAll old new result bytes = MatchResult result (λ _. Appends old new bytes) (λ _. AppendsPart old new bytes)
