-- Where a path stands in a list of files, or where it would go.
use Rattle.std.specs.Prelude.{◌≡◌, ℕ, ◌<◌, ◌≤◌, List, length, slice_index_or, [], Result, MatchResult}
use Rattle.std.specs.Ordering.{nat_cmp}
use Rattle.std.specs.Cmp.Lexicographic.{slice_cmp}
use Rattle.std.specs.declared.cmp.Ordering.TheVariants.{Less, Equal, Greater}

abbrev pub path_at : List (List ℕ × List ℕ) → ℕ → List ℕ
path_at es i = let entry = slice_index_or es i ([], []) in entry.0

-- the path is above each of the first i
abbrev pub IsAboveFirst : List ℕ → List (List ℕ × List ℕ) → ℕ → Type 0
IsAboveFirst path es i = (k : ℕ) → k < i → slice_cmp nat_cmp path (path_at es k) ≡ Greater

-- the path stands at the index
abbrev pub StandsAt : List ℕ → List (List ℕ × List ℕ) → ℕ → Type 0
StandsAt path es i = (i < length es) × (slice_cmp nat_cmp path (path_at es i) ≡ Equal) × IsAboveFirst path es i

-- the path stands nowhere, and goes before the index
abbrev pub GoesBefore : List ℕ → List (List ℕ × List ℕ) → ℕ → Type 0
GoesBefore path es i = (i ≤ length es) × (i < length es → slice_cmp nat_cmp path (path_at es i) ≡ Less) × IsAboveFirst path es i

abbrev pub IsSlot : List ℕ → List (List ℕ × List ℕ) → Result ℕ ℕ → Type 0
IsSlot path es r = MatchResult r (StandsAt path es) (GoesBefore path es)
