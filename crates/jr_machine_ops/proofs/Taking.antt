-- One value more is taken off.
use Rattle.std.proofs.Common.{◌≡◌, refl, ℕ, zero, suc, ◌-◌, ◌<◌, List, [], ◌∷◌, None, sub-one, arith}
use Rattle.jr_machine_defs.specs.declared.value.Value.{Value}
use Rattle.jr_machine_defs.specs.declared.state.State.{State}
use Rattle.jr_machine_defs.specs.States.{Next, with_some}

pub taken_step : (count : ℕ) (args rest : List Value) (a : Value) (s : State) (f : List Value → State → Next) → 0 < count
    → with_some count args (a ∷ rest) s f ≡ with_some (count - 1) (a ∷ args) rest s f
taken_step zero args rest a s f up = absurd (omega arith)
taken_step (suc count) args rest a s f up = rw sub-one refl

pub taken_none : (count : ℕ) (args : List Value) (s : State) (f : List Value → State → Next) → 0 < count → with_some count args [] s f ≡ None
taken_none zero args s f up = absurd (omega arith)
taken_none (suc count) args s f up = refl
