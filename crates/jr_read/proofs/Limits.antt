-- The files of a program that was read are within their limits.
use Rattle.std.proofs.Common.{◌≡◌, ◌≤◌, ◌<◌, ◌^◌, ℕ, nat_lt, Bool, true, false, List, [], ◌∷◌, length, Some, None, if◌then◌else◌, refl, arith}
use Rattle.std.proofs.lemmas.Bool.{ltb-false, leb-true, or_parts}
use Rattle.std.specs.List.{AllByRecursion}
use Rattle.std.specs.FinMap as files
use Rattle.jr_base.specs.declared.limits.Size.{Size}
use Rattle.jr_base.specs.declared.limits.Size.TheVariants as size
use Rattle.jr_base.specs.declared.limits.TheConstants.Limits as limits
use Rattle.jr_defs.specs.Prelude.{lang_text, io_text}
use Rattle.jr_read.specs.Reading.{ReadFilesAreSmall, program as one_program}
use Rattle.jr_read.specs.Sizes.{has_large_file}

some_none : (s : Size) → Some s ≡ None → ⊥
some_none s e = cc

-- where no size passes its limit, no file does
none_large : (a b d e : Bool) → (if a then Some size.Files else (if b then Some size.Path else (if d then Some size.File else (if e then Some size.Total else None)))) ≡ None → d ≡ false
none_large true b d e none = absurd (some_none size.Files none)
none_large false true d e none = absurd (some_none size.Path none)
none_large false false true e none = absurd (some_none size.File none)
none_large false false false e none = refl

all_small : (found : List (List ℕ × List ℕ)) → has_large_file found ≡ false → AllByRecursion (λ file. length file.1 < 2 ^ 32) found
all_small [] none = tt
all_small (file ∷ found) none =
    let both = or_parts (nat_lt limits.FILE (length file.1)) (has_large_file found) none in
    let least : length file.1 ≤ 1048576 = ltb-false limits.FILE (length file.1) both.0 in
    (omega (arith, least), all_small found both.1)

lang_small : length lang_text < 2 ^ 32
lang_small = let least = leb-true (length lang_text) 65536 refl in omega (arith, least)

io_small : length io_text < 2 ^ 32
io_small = let least = leb-true (length io_text) 65536 refl in omega (arith, least)

pub files_small : ReadFilesAreSmall
files_small found program (one_program few are within units) = (lang_small, (io_small, all_small (files.entries found) (none_large _ _ _ _ few)))
