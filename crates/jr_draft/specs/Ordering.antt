-- The order of the units of a changed program, which is that of their paths.
use Rattle.std.specs.Prelude.{ℕ, zero, suc, Bool, true, false, not, ◌&&◌, if◌then◌else◌, List, [], ◌∷◌, ◌++◌, length, Option, Some, None, nat_eq, nat_lt, slice_get}
use Rattle.std.specs.Ordering.{nat_cmp}
use Rattle.std.specs.declared.cmp.Ordering.{Ordering}
use Rattle.std.specs.declared.cmp.Ordering.TheVariants.{Less, Equal, Greater}
use Rattle.std.specs.Cmp.Lexicographic.{slice_cmp}
use Rattle.jr_defs.specs.declared.program.UnitAt.{UnitAt}
use Rattle.jr_marks.specs.declared.marks.Marks.{Marks}

-- by the order of the paths, and of one path the lower number
abbrev pub is_before_by : Ordering → ℕ → ℕ → Bool
is_before_by Less number unit = true
is_before_by Equal number unit = nat_lt number unit
is_before_by Greater number unit = false

abbrev pub is_before_placed : List ℕ → ℕ → ℕ → Option UnitAt → Bool
is_before_placed path number unit None = false
is_before_placed path number unit (Some placed) = is_before_by (slice_cmp nat_cmp path placed.path) number unit

-- a unit of this path and number stands before an old unit that keeps its path
abbrev pub is_before : Marks → List ℕ → ℕ → ℕ → Bool
is_before m path number unit = is_before_placed path number unit (slice_get m.units.now unit)

-- units in their order, and whether the one that moves is among them
pub record Placed : Type 0 where
  pub units : List ℕ
  pub is_placed : Bool

abbrev pub placed_before : Marks → ℕ → List ℕ → ℕ → Placed → Placed
placed_before m moved path unit s = if not s.is_placed && is_before m path moved unit then record { units = s.units ++ moved ∷ []; is_placed = true } else s

-- with one unit more, before which the one that moves goes if it stands before it by its new path
abbrev pub with_placed : Marks → ℕ → List ℕ → ℕ → Placed → Placed
with_placed m moved path unit s = let more = placed_before m moved path unit s in
    if nat_eq unit moved then more else record { units = more.units ++ unit ∷ []; is_placed = more.is_placed }

-- the units of the workspace among the first ones, so many of them
abbrev pub placed_below : Marks → ℕ → List ℕ → ℕ → Placed
placed_below m moved path zero = record { units = []; is_placed = false }
placed_below m moved path (suc unit) = let before = placed_below m moved path unit in if nat_lt unit 2 then before else with_placed m moved path unit before

abbrev pub placed_last : ℕ → Placed → List ℕ
placed_last moved s = if s.is_placed then s.units else s.units ++ moved ∷ []

-- all units of the workspace, of which one has a new path, or one that is new
abbrev pub order_with : Marks → ℕ → List ℕ → List ℕ
order_with m moved path = placed_last moved (placed_below m moved path (length m.units.now))
