-- That the code does what the definition says.
use Rattle.std.specs.Prelude.{◌≡◌, ℕ, Bool, true, false, List, [], Option, Some, None, slice_set}
use Rattle.jr_core.specs.Mirror as m
use Rattle.jr_machine_defs.specs.declared.value.Value.{Value}
use Rattle.jr_machine_defs.specs.declared.heap.Cell.{Cell}
use Rattle.jr_machine_defs.specs.declared.outcome.Outcome.{Outcome}
use Rattle.jr_machine_defs.specs.declared.outcome.Given.{Given}
use Rattle.jr_machine_defs.specs.declared.outcome.Given.TheVariants as given
use Rattle.jr_machine_defs.specs.declared.state.State.{State}
use Rattle.jr_core.specs.Mirror.{Core}
use Rattle.jr_machine_defs.specs.Parts.{codes_count}
use Rattle.jr_machine_defs.specs.Places.{without_receiver}
use Rattle.jr_machine_defs.specs.Steps.{next}
use Rattle.jr_machine_defs.specs.States.{Next, with_some, with_outcome, with_values}

-- where there is a next state, the code went on and has it; where there is none, it says so, and nothing was printed
abbrev pub Follows : Next → Bool → State → State → Type 0
Follows None true old new = ⊥
Follows None false old new = new.printed ≡ old.printed
Follows (Some s) true old new = new ≡ s
Follows (Some s) false old new = ⊥

-- the value that an operation gives is there to go on with, or all has been done
abbrev pub Gives : Outcome → State → Given → State → Type 0
Gives outcome old (given.Value value) new = ((f : Value → State → Next) → with_outcome outcome old f ≡ f value new) × (new.printed ≡ old.printed)
Gives outcome old (given.Done went) new = (f : Value → State → Next) → Follows (with_outcome outcome old f) went old new

-- what goes on with values that were taken off
abbrev pub goes_on_with : Option (List Value) → List Value → State → (List Value → State → Next) → Next
goes_on_with None rest s f = None
goes_on_with (Some args) rest s f = f args (with_values rest s)

-- so many values were taken off, if there were so many
abbrev pub Takes : ℕ → List Value → Option (List Value) → List Value → Type 0
Takes count old taken new = (s : State) (f : List Value → State → Next) → with_some count [] old s f ≡ goes_on_with taken new s f

-- the receiver of a static member was taken off, if it has one
abbrev pub Drops : m.AnyCode → State → Bool → State → Type 0
Drops on old true new = ((f : State → Next) → without_receiver on old f ≡ f new) × (new.printed ≡ old.printed)
Drops on old false new = ((f : State → Next) → without_receiver on old f ≡ None) × (new.printed ≡ old.printed)

-- the place of the heap has this cell now, if there is one to be set
abbrev pub Sets : Option Cell → ℕ → Bool → List Cell → List Cell → Type 0
Sets (Some c) at true old new = new ≡ slice_set old at c
Sets (Some c) at false old new = ⊥
Sets None at true old new = ⊥
Sets None at false old new = new ≡ old

-- the values of these arguments were taken off, if there were so many
abbrev pub TakesArgs : m.Codes → State → Option (List Value) → State → Type 0
TakesArgs args old None new = ((f : List Value → State → Next) → with_some (codes_count args) [] old.frame.values old f ≡ None) × (new.printed ≡ old.printed)
TakesArgs args old (Some taken) new = ((f : List Value → State → Next) → with_some (codes_count args) [] old.frame.values old f ≡ f taken new) × (new.printed ≡ old.printed)

-- the next state was made, or there is none, and nothing was printed
abbrev pub AdvancesTo : Next → Bool → State → State → Type 0
AdvancesTo n true old new = n ≡ Some new
AdvancesTo n false old new = (n ≡ None) × (new.printed ≡ old.printed)

abbrev pub Advances : Core → Bool → State → State → Type 0
Advances core went old new = AdvancesTo (next core old) went old new
