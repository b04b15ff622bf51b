-- The sizes of the files found, and the order in which they are tested.
use Rattle.std.specs.Prelude.{ℕ, ◌-◌, nat_lt, List, [], ◌∷◌, length, Bool, false, ◌||◌, Option, Some, None, if◌then◌else◌}
use Rattle.jr_base.specs.declared.limits.Size.{Size}
use Rattle.jr_base.specs.declared.limits.Size.TheVariants as size
use Rattle.jr_base.specs.declared.limits.TheConstants.Limits as limits

abbrev pub has_long_path : List (List ℕ × List ℕ) → Bool
has_long_path [] = false
has_long_path (file ∷ files) = nat_lt limits.PATH (length file.0) || has_long_path files

abbrev pub has_large_file : List (List ℕ × List ℕ) → Bool
has_large_file [] = false
has_large_file (file ∷ files) = nat_lt limits.FILE (length file.1) || has_large_file files

-- whether the bytes of all files are more than may be
abbrev pub passes_total : List (List ℕ × List ℕ) → ℕ → Bool
passes_total [] most = false
passes_total (file ∷ files) most = nat_lt most (length file.1) || passes_total files (most - length file.1)

-- the first size that passes its limit
abbrev pub first_too_large : List (List ℕ × List ℕ) → Option Size
first_too_large files =
    if nat_lt limits.FILES (length files) then Some size.Files
    else (if has_long_path files then Some size.Path
    else (if has_large_file files then Some size.File
    else (if passes_total files limits.TOTAL then Some size.Total else None)))
