-- Parts that wait for the row round them.
use Rattle.std.specs.Prelude.{◌≡◌, ℕ, Bool, true, false, if◌then◌else◌, List, [], ◌∷◌, reverse, Option, Some, None, nat_eq, nat_lt}
use Rattle.jr_codes.specs.declared.parts.Parts.{Parts}

-- the parts with their rows, that of the first row first
abbrev pub waiting : {T : Type 0} → Parts T → List (ℕ × T)
waiting parts = reverse parts.entries.items

abbrev pub top_row : {T : Type 0} → List (ℕ × T) → Option ℕ
top_row [] = None
top_row (part ∷ all) = Some part.0

-- the first part is that of the row
abbrev pub is_top : {T : Type 0} → ℕ → List (ℕ × T) → Bool
is_top row [] = false
is_top row (part ∷ all) = nat_eq part.0 row

-- the first part is that of a row before this one
abbrev pub top_before : {T : Type 0} → ℕ → List (ℕ × T) → Bool
top_before end [] = false
top_before end (part ∷ all) = nat_lt part.0 end

-- the first part is that of this row, and the row stands before that one; or no first part does
abbrev pub StandsBefore : {T : Type 0} → ℕ → List (ℕ × T) → Option ℕ → Type 0
StandsBefore end all (Some row) = nat_lt row end ≡ true
StandsBefore end all None = top_before end all ≡ false

-- the parts of the rows before this one, and those behind them
abbrev pub front : {T : Type 0} → ℕ → List (ℕ × T) → List T
front end [] = []
front end (part ∷ all) = if nat_lt part.0 end then part.1 ∷ front end all else []

abbrev pub behind : {T : Type 0} → ℕ → List (ℕ × T) → List (ℕ × T)
behind end [] = []
behind end (part ∷ all) = if nat_lt part.0 end then behind end all else part ∷ all

-- the part of the row is taken off, if there is such a row and its part is the first
abbrev pub TakesIf : {T : Type 0} → Option ℕ → List (ℕ × T) → List (ℕ × T) → Option T → Type 0
TakesIf (Some row) old new (Some part) = old ≡ (row, part) ∷ new
TakesIf (Some row) old new None = (is_top row old ≡ false) × (new ≡ old)
TakesIf None old new found = (found ≡ None) × (new ≡ old)

-- the first part is taken off, if its row stands before this one
abbrev pub TakesBefore : {T : Type 0} → ℕ → List (ℕ × T) → List (ℕ × T) → Option T → Type 0
TakesBefore end old new (Some part) = (row : ℕ) × (nat_lt row end ≡ true) × (old ≡ (row, part) ∷ new)
TakesBefore end old new None = (top_before end old ≡ false) × (new ≡ old)

-- all parts of the rows before this one are taken off
pub record TakesFront {T : Type 0} (end : ℕ) (old new : List (ℕ × T)) (all : List T) : Type 0 where
  pub taken : all ≡ front end old
  pub left : new ≡ behind end old

-- the first part becomes that of another row
pub record HandsOn {T : Type 0} (from to : ℕ) (old new : List (ℕ × T)) : Type 0 where
  pub part : T
  pub rest : List (ℕ × T)
  pub was : old ≡ (from, part) ∷ rest
  pub is : new ≡ (to, part) ∷ rest
