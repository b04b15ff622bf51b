-- Creation of arrays (JLS 15.10, 10.6).
use Rattle.std.specs.Prelude.{ℕ, zero, suc, ◌+◌, ◌*◌, Bool, true, false, if◌then◌else◌, List, [], ◌∷◌, ◌++◌, length, Option, Some, None, replicate, ℤ, pos, negsuc}
use Rattle.jr_base.specs.Mirror as t
use Rattle.jr_machine_defs.specs.declared.value.Value.{Value}
use Rattle.jr_machine_defs.specs.declared.value.Value.TheVariants as v
use Rattle.jr_machine_defs.specs.declared.heap.Cell.{Cell}
use Rattle.jr_machine_defs.specs.declared.heap.Cell.TheVariants as cell
use Rattle.jr_machine_defs.specs.declared.outcome.Fault.TheVariants as fault
use Rattle.jr_machine_defs.specs.declared.outcome.Sizes.{Sizes}
use Rattle.jr_machine_defs.specs.declared.outcome.Sizes.TheVariants as sizes_are
use Rattle.jr_machine_defs.specs.declared.state.State.{State}
use Rattle.jr_machine_defs.specs.Values.{default_of}
use Rattle.jr_machine_defs.specs.States.{Next, push_value, with_heap, raises, add_cell}

-- the array with these components
abbrev pub makes_array : t.Ty → List Value → State → Next
makes_array (t.Array item) items s = Some (push_value (v.Ref (length s.heap)) (add_cell (cell.Array item items) s))
makes_array ty items s = None

-- ---- dimensions

-- the dimensions as counts, after those in `sizes`; whether one of them was negative
abbrev pub sizes_from : List Value → Bool → List ℕ → Sizes
sizes_from [] false sizes = sizes_are.Fit sizes
sizes_from [] true sizes = sizes_are.Negative
sizes_from (v.Int (pos n) ∷ dims) is_negative sizes = sizes_from dims is_negative (sizes ++ n ∷ [])
sizes_from (v.Int (negsuc n) ∷ dims) is_negative sizes = sizes_from dims true sizes
sizes_from (value ∷ dims) is_negative sizes = sizes_are.Unfit

-- so many references to cells that follow each other
abbrev pub references : ℕ → ℕ → List Value
references first zero = []
references first (suc count) = v.Ref first ∷ references (first + 1) count

-- so many arrays of references, each to the next cells from this one on
abbrev pub arrays_of_arrays : t.Ty → ℕ → ℕ → ℕ → List Cell
arrays_of_arrays item first size zero = []
arrays_of_arrays item first size (suc count) = cell.Array item (references first size) ∷ arrays_of_arrays item (first + size) size count

-- so many arrays of a type, with these dimensions: first these arrays, then those that they refer to
abbrev pub arrays : t.Ty → ℕ → ℕ → List ℕ → List Cell
arrays (t.Array item) first count [] = []
arrays (t.Array item) first count (size ∷ []) = replicate count (cell.Array item (replicate size (default_of item)))
arrays (t.Array item) first count (size ∷ more ∷ sizes) =
    arrays_of_arrays item (first + count) size count ++ arrays item (first + count) (count * size) (more ∷ sizes)
arrays ty first count sizes = []

abbrev pub is_array_of : t.Ty → List ℕ → Bool
is_array_of ty [] = true
is_array_of (t.Array item) (size ∷ sizes) = is_array_of item sizes
is_array_of ty sizes = false

abbrev pub makes_fit : t.Ty → List ℕ → State → Next
makes_fit ty [] s = None
makes_fit ty (size ∷ sizes) s =
    if is_array_of ty (size ∷ sizes) then Some (push_value (v.Ref (length s.heap)) (with_heap (s.heap ++ arrays ty (length s.heap) 1 (size ∷ sizes)) s)) else None

abbrev pub makes_sized : t.Ty → Sizes → State → Next
makes_sized ty (sizes_are.Fit sizes) s = makes_fit ty sizes s
makes_sized ty sizes_are.Negative s = Some (raises fault.NegativeArraySize s)
makes_sized ty sizes_are.Unfit s = None

-- the array with these dimensions, each component with the default value of its type; the dimensions are checked after all are evaluated (JLS 15.10.1)
abbrev pub makes_arrays : t.Ty → List Value → State → Next
makes_arrays ty dims s = makes_sized ty (sizes_from dims false []) s
