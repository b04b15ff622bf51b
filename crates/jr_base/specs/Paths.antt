-- Which bytes are the path of a file below the folder.
use Rattle.std.specs.Prelude.{◌≡◌, ◌≢◌, ℕ, Bool, ◌||◌, List, [], ◌∷◌, Contains, codes, IsTrue, eqb, nat_eq, bytes_eq}
use Rattle.std.specs.List.{slice_split, list_any, ends_with}
use Rattle.std.specs.Str.{IsUtf8}
use Rattle.jr_base.specs.declared.path.PathFault.{PathFault}
use Rattle.jr_base.specs.declared.path.PathFault.TheVariants.{Empty, Absolute, DotPart, NotText, OutOfMemory}

-- the parts between the slashes
abbrev pub parts : List ℕ → List (List ℕ)
parts bytes = slice_split (λ b. eqb b 47) bytes

-- a part that names no file: an empty one, `.` or `..`
abbrev pub is_dot_part : List ℕ → Bool
is_dot_part part = bytes_eq part [] || (bytes_eq part (codes ".") || bytes_eq part (codes ".."))

abbrev pub HasDotPart : List ℕ → Type 0
HasDotPart bytes = IsTrue (list_any is_dot_part (parts bytes))

-- the path begins with a slash
abbrev pub IsAbsolute : List ℕ → Type 0
IsAbsolute [] = ⊥
IsAbsolute (b ∷ bs) = b ≡ 47

-- UTF-8 without a zero byte
pub record IsPathText (bytes : List ℕ) : Type 0 where
  pub utf8 : IsUtf8 bytes
  pub no_zero : Contains bytes 0 → ⊥

pub record IsPath (bytes : List ℕ) : Type 0 where
  pub some : bytes ≢ []
  pub relative : IsAbsolute bytes → ⊥
  pub named : HasDotPart bytes → ⊥
  pub text : IsPathText bytes

-- the first of the faults that the bytes have, in the order of the cases
abbrev pub IsPathFault : List ℕ → PathFault → Type 0
IsPathFault bytes Empty = bytes ≡ []
IsPathFault bytes Absolute = IsAbsolute bytes
IsPathFault bytes DotPart = (bytes ≢ []) × (IsAbsolute bytes → ⊥) × HasDotPart bytes
IsPathFault bytes NotText = (bytes ≢ []) × (IsAbsolute bytes → ⊥) × (HasDotPart bytes → ⊥) × (IsPathText bytes → ⊥)
IsPathFault bytes OutOfMemory = Unit {0}

-- the path ends in `.java`
abbrev pub is_java : List ℕ → Bool
is_java path = ends_with nat_eq path (codes ".java")
