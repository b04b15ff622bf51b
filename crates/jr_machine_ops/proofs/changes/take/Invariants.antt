use Rattle.std.proofs.Common.{◌≡◌, ◌-◌, List, []}
use Rattle.jr_machine_defs.specs.declared.value.Value.{Value}
use Rattle.jr_machine_defs.specs.declared.state.State.{State}
use Rattle.jr_machine_defs.specs.States.{Next, with_some}
use Rattle.jr_machine_ops.proofs.changes.take.Given as goal

abbrev pub invariant-loop-i : goal.invariant-loop-i
invariant-loop-i l = (s : State) (f : List Value → State → Next) → with_some (l.count - l.i) l.args l.values s f ≡ with_some l.count [] l.initial.values s f
