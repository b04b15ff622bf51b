-- Files that the front accepts are within the limits of a plan.
use Rattle.std.proofs.Common.{◌≡◌, ℕ, ◌-◌, ◌≤◌, nat_lt, Bool, true, false, List, [], ◌∷◌, length, map, Some, None, Ok, refl, sym, arith}
use Rattle.std.specs.Prelude.{◌||◌, if◌then◌else◌}
use Rattle.std.specs.FinMap as finite
use Rattle.std.specs.List.{AllByRecursion}
use Rattle.std.proofs.lemmas.Bool.{ltb-false, false≢true}
use Rattle.std.proofs.lemmas.List.Sums.{sum_by-cons}
use Rattle.jr_base.specs.Files.{FileMap}
use Rattle.jr_base.specs.declared.limits.Size.TheVariants as size
use Rattle.jr_base.specs.declared.limits.TheConstants.Limits as limits
use Rattle.jr_commit.specs.Differences.{File}
use Rattle.jr_commit.specs.Sizes.{content_bytes, IsWithinLimits}
use Rattle.jr_front.specs.Checking.{CheckedAs, accepted}
use Rattle.jr_read.specs.Reading.{program as one_program}
use Rattle.jr_read.specs.Sizes.{has_long_path, passes_total, first_too_large}

or_false : (a b : Bool) → (a || b) ≡ false → (a ≡ false) × (b ≡ false)
or_false true b is = absurd (false≢true (sym is))
or_false false b is = (refl, is)

some_none : {A : Type 0} (x : A) → Some x ≡ None → ⊥
some_none x is = cc

none_passes : (a b c d : Bool) → (if a then Some size.Files else (if b then Some size.Path else (if c then Some size.File else (if d then Some size.Total else None)))) ≡ None
    → (a ≡ false) × (b ≡ false) × (d ≡ false)
none_passes true b c d none = absurd (some_none size.Files none)
none_passes false true c d none = absurd (some_none size.Path none)
none_passes false false true d none = absurd (some_none size.File none)
none_passes false false false true none = absurd (some_none size.Total none)
none_passes false false false false none = (refl, refl, refl)

short_paths : (files : List (List ℕ × List ℕ)) → has_long_path files ≡ false → AllByRecursion (λ path. length path ≤ limits.PATH) (map (λ file. file.0) files)
short_paths [] none = tt
short_paths (file ∷ files) none =
    let both = or_false (nat_lt limits.PATH (length file.0)) (has_long_path files) none in
    (ltb-false limits.PATH (length file.0) both.0, short_paths files both.1)

few_bytes : (files : List (List ℕ × List ℕ)) (most : ℕ) → passes_total files most ≡ false → content_bytes files ≤ most
few_bytes [] most none = omega arith
few_bytes (file ∷ files) most none =
    let both = or_false (nat_lt most (length file.1)) (passes_total files (most - length file.1)) none in
    let here : length file.1 ≤ most = ltb-false most (length file.1) both.0 in
    let rest : content_bytes files ≤ most - length file.1 = few_bytes files (most - length file.1) both.1 in
    omega (arith, here, rest, sum_by-cons (λ (f : File). length f.1) file files)

small : (found : FileMap) → first_too_large (finite.entries found) ≡ None → IsWithinLimits found
small found none =
    let files = finite.entries found in
    let all = none_passes (nat_lt limits.FILES (length files)) (has_long_path files) _ (passes_total files limits.TOTAL) none in
    record { count = ltb-false limits.FILES (length files) all.0; paths = short_paths files all.1; contents = few_bytes files limits.TOTAL all.2 }

pub within : (found : FileMap) → CheckedAs found (Ok tt) → IsWithinLimits found
within found (accepted (one_program few lexed count of) binding) = small found few
