-- Native methods that the machine does itself: `length`, `charAt` and `equals` of strings, and printing.
use Rattle.std.specs.Prelude.{ℕ, Bool, true, false, if◌then◌else◌, List, [], ◌∷◌, ◌++◌, length, Option, Some, None, slice_get, ℤ, nat_eq}
use Rattle.std.specs.Cmp.Lexicographic.{pointwise}
use Rattle.jr_base.specs.declared.ids.DeclId.{DeclId}
use Rattle.jr_machine_defs.specs.declared.value.Value.{Value}
use Rattle.jr_machine_defs.specs.declared.value.Value.TheVariants as v
use Rattle.jr_machine_defs.specs.declared.heap.Cell.{Cell}
use Rattle.jr_machine_defs.specs.declared.outcome.Fault.TheVariants as fault
use Rattle.jr_machine_defs.specs.declared.outcome.Outcome.{Outcome}
use Rattle.jr_machine_defs.specs.declared.outcome.Outcome.TheVariants as o
use Rattle.jr_machine_defs.specs.declared.state.RunEnd.TheVariants as ends
use Rattle.jr_machine_defs.specs.declared.state.State.{State}
use Rattle.jr_machine_defs.specs.Values.{same_decl}
use Rattle.jr_machine_defs.specs.Prelude.{length_method, char_at_method, equals_method, print_method}
use Rattle.jr_machine_defs.specs.Strings.{units_of, shown, int_of_count}
use Rattle.jr_machine_defs.specs.Places.{place_in}
use Rattle.jr_machine_defs.specs.States.{Next, settled, push_value}

abbrev pub length_of : Option (List ℕ) → Outcome
length_of None = o.Unfit
length_of (Some units) = o.Gives (v.Int (int_of_count (length units)))

abbrev pub char_or_unfit : Option ℕ → Outcome
char_or_unfit None = o.Unfit
char_or_unfit (Some unit) = o.Gives (v.Char unit)

abbrev pub char_in : List ℕ → Option ℕ → Outcome
char_in units None = o.Throws fault.StringIndex
char_in units (Some i) = char_or_unfit (slice_get units i)

-- the one argument, where there is just one
abbrev pub only_of : List Value → Option Value
only_of [] = None
only_of (value ∷ []) = Some value
only_of (value ∷ other ∷ all) = None

abbrev pub char_of : Option (List ℕ) → Option Value → Outcome
char_of (Some units) (Some (v.Int index)) = char_in units (place_in (length units) index)
char_of units arg = o.Unfit

abbrev pub equals_units : List ℕ → Option (List ℕ) → Bool
equals_units units None = false
equals_units units (Some others) = pointwise nat_eq units others

abbrev pub equals_of : List Cell → Option (List ℕ) → Option Value → Outcome
equals_of heap (Some units) (Some value) = o.Gives (v.Bool (equals_units units (units_of heap value)))
equals_of heap units arg = o.Unfit

abbrev pub prints_units : Option (List ℕ) → State → Next
prints_units None s = None
prints_units (Some units) s = Some (push_value v.Void (record s { printed = s.printed ++ units }))

abbrev pub prints : Option Value → State → Next
prints None s = None
prints (Some value) s = prints_units (shown s.heap value) s

-- a call of a native method; one that the machine does not do itself ends the run
abbrev pub native_call : DeclId → Value → List Value → State → Next
native_call method receiver args s =
    if same_decl method length_method then settled (length_of (units_of s.heap receiver)) s
    else if same_decl method char_at_method then settled (char_of (units_of s.heap receiver) (only_of args)) s
    else if same_decl method equals_method then settled (equals_of s.heap (units_of s.heap receiver) (only_of args)) s
    else if same_decl method print_method then prints (only_of args) s
    else Some (record s { end = ends.Native method })
