use Rattle.std.proofs.Common.{◌≡◌, ◌++◌, drop}
use Rattle.jr_machine_defs.specs.Calls.{slots_of}
use Rattle.jr_machine_ops.proofs.frames.slots_of.Given as goal

abbrev pub invariant-loop-param : goal.invariant-loop-param
invariant-loop-param l = l.slots ++ slots_of (drop l.param-index l.params) l.args ≡ slots_of l.params l.initial.args
