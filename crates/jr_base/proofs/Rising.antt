-- The paths of files rise.
use Rattle.std.proofs.Common.{◌≡◌, ℕ, zero, suc, ◌<◌, List, [], ◌∷◌, length, arith, T}
use Rattle.std.specs.Ordering.{nat_cmp}
use Rattle.std.specs.Cmp.Lexicographic.{slice_cmp}
use Rattle.std.specs.declared.cmp.Ordering.TheVariants.{Less}
use Rattle.std.specs.FinMap as finite
use Rattle.std.specs.FinMap.Entries.{is_sorted, below_all}
use Rattle.jr_base.specs.Files.{FileMap}
use Rattle.jr_base.specs.Slots.{path_at}
use Rattle.jr_base.proofs.Entries.{R, Entries, first, second, is_less}

below_at : (path : List ℕ) (es : Entries) (i : ℕ) → i < length es → T (below_all R path es) → R path (path_at es i) ≡ Less
below_at path [] i inside below = absurd (omega arith)
below_at path (e ∷ es) zero inside below = is_less _ (first _ _ below)
below_at path (e ∷ es) (suc i) inside below = below_at path es i (omega arith) (second _ _ below)

-- the paths rise
pub rises : (es : Entries) (i j : ℕ) → i < j → j < length es → T (is_sorted R es) → R (path_at es i) (path_at es j) ≡ Less
rises [] i j lt inside sorted = absurd (omega arith)
rises (e ∷ es) i zero lt inside sorted = absurd (omega arith)
rises (e ∷ es) zero (suc j) lt inside sorted = below_at e.0 es j (omega arith) (first _ _ sorted)
rises (e ∷ es) (suc i) (suc j) lt inside sorted = rises es i j (omega arith) (omega arith) (second _ _ sorted)

-- among the entries of files, an earlier path is below a later one
pub entries_rise : (files : FileMap) (i j : ℕ) → i < j → j < length (finite.entries files) → slice_cmp nat_cmp (path_at (finite.entries files) i) (path_at (finite.entries files) j) ≡ Less
entries_rise files i j lt inside = rises (finite.entries files) i j lt inside (finite.entries_sorted files)
