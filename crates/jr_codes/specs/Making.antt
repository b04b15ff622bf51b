-- What comes of a row by the parts below it.
use Rattle.std.specs.Prelude.{◌≡◌, ℕ, suc, ◌<◌, ◌≤◌, true, List, [], ◌∷◌, ◌++◌, length, Option, Some, None}
use Rattle.jr_core.specs.declared.code.Code.{Code}
use Rattle.jr_codes.specs.Waiting.{is_top}

-- the codes that are made below a row and stand in no other one there, with their rows, in order of the text
abbrev pub Below : Type 0
Below = List (ℕ × Code)

-- a row is code; or it is none, and what is made below it stands in the row round it; or it is as in no program that compiles
pub data Made : Type 0 where
  code : Code → Made
  nothing : Made
  unknown : Made

abbrev pub code_if : Option Code → Made
code_if (Some x) = code x
code_if None = unknown

-- of none, one, two or three parts
abbrev pub of_none : Below → Made → Made
of_none [] made = made
of_none _ made = unknown

abbrev pub of_one : Below → (ℕ → Code → Made) → Made
of_one ((m, a) ∷ []) f = f m a
of_one _ f = unknown

abbrev pub of_two_parts : Below → (ℕ → Code → ℕ → Code → Made) → Made
of_two_parts ((m, a) ∷ ((k, b) ∷ [])) f = f m a k b
of_two_parts _ f = unknown

abbrev pub of_three : Below → (ℕ → Code → ℕ → Code → ℕ → Code → Made) → Made
of_three ((m, a) ∷ ((k, b) ∷ ((l, c) ∷ []))) f = f m a k b l c
of_three _ f = unknown

-- all rows of the parts stand before this one
abbrev pub AreBefore : {T : Type 0} → ℕ → List (ℕ × T) → Type 0
AreBefore end [] = Unit {0}
AreBefore end (part ∷ all) = (part.0 < end) × AreBefore end all

-- the first part, if there is one, is that of this row or of one behind it
abbrev pub BeginsFrom : {T : Type 0} → ℕ → List (ℕ × T) → Type 0
BeginsFrom end [] = Unit {0}
BeginsFrom end (part ∷ all) = end ≤ part.0

-- what waits is what is made inside a row that ends here, and then what is made behind it
pub record Parted {T : Type 0} (end : ℕ) (all parts rest : List (ℕ × T)) : Type 0 where
  pub is : all ≡ parts ++ rest
  pub inside : AreBefore end parts
  pub after : BeginsFrom end rest

-- where the first part is that of the row, it is the only one that stands before the rest
abbrev pub IsOneAt : {T : Type 0} → ℕ → List (ℕ × T) → List (ℕ × T) → Type 0
IsOneAt n rest new = is_top n new ≡ true → length new ≡ suc (length rest)

-- what waits then is this, where before there were these parts and the rest
abbrev pub Stands : Made → ℕ → Below → Below → Below → Type 0
Stands (code x) n parts rest new = new ≡ (n, x) ∷ rest
Stands nothing n parts rest new = new ≡ parts ++ rest
Stands unknown n parts rest new = ⊥
