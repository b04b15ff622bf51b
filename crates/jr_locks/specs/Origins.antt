-- Where the rows of a changed program come from.
use Rattle.std.specs.Prelude.{ℕ, ◌≤◌, zero, suc, ◌+◌, ◌-◌, Bool, true, false, List, [], ◌∷◌, ◌++◌, replicate, Option, Some, None, if◌then◌else◌, nat_eq, slice_index_or, ⊤}
use Rattle.jr_change.specs.declared.change.Segment.{Segment}
use Rattle.jr_change.specs.declared.change.Segment.TheVariants as segment

-- the number of no row
abbrev pub no_row : ℕ
no_row = 4294967295

-- the old row of which the row n is a copy, or no row
abbrev pub origin_of : List ℕ → ℕ → ℕ
origin_of origin n = slice_index_or origin n no_row

-- a row, if it is one
abbrev pub row_by : ℕ → Option ℕ
row_by n = if nat_eq n no_row then None else Some n

-- so many rows from the first on
abbrev pub run : ℕ → ℕ → List ℕ
run first zero = []
run first (suc k) = run first k ++ (first + k) ∷ []

-- the origins of the rows of a segment
abbrev pub of_segment : Segment → List ℕ
of_segment (segment.Copy first end) = run first (end - first)
of_segment (segment.Turned row) = row ∷ []
of_segment (segment.Glue count) = replicate count no_row

-- and which of them have another label
abbrev pub turned_in : Segment → List Bool
turned_in (segment.Copy first end) = replicate (end - first) false
turned_in (segment.Turned row) = true ∷ []
turned_in (segment.Glue count) = replicate count false

-- the origins of the rows of all segments, one after the other
abbrev pub origins : List Segment → List ℕ
origins [] = []
origins (s ∷ rest) = of_segment s ++ origins rest

abbrev pub turned : List Segment → List Bool
turned [] = []
turned (s ∷ rest) = turned_in s ++ turned rest

-- so many numbers, from one on down
abbrev pub down : ℕ → ℕ → List ℕ
down from zero = []
down from (suc k) = down from k ++ (from - k) ∷ []

-- how many rows of the segment stand from each of its rows on; 0 where it copies no run of rows
abbrev pub rest_in : Segment → List ℕ
rest_in (segment.Copy first end) = down (end - first) (end - first)
rest_in (segment.Turned row) = 0 ∷ []
rest_in (segment.Glue count) = replicate count 0

abbrev pub rests : List Segment → List ℕ
rests [] = []
rests (s ∷ more) = rest_in s ++ rests more

-- the rows that a segment copies are rows from one on
abbrev pub IsRun : Segment → Type 0
IsRun (segment.Copy first end) = first ≤ end
IsRun other = ⊤
