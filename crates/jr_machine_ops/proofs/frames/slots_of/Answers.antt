use Rattle.std.proofs.Common.{◌≡◌, []}
use Rattle.std.proofs.lemmas.List.{append-nil}
use Rattle.jr_machine_ops.proofs.Entering.{no_slots}
use Rattle.jr_machine_ops.proofs.frames.slots_of.Goals as goal

pub returns-in-None : goal.returns-in-None
returns-in-None c =
    let e : c.loop-param.args ≡ [] = c.in-None.ensures.0 in
    rw (e, no_slots, append-nil) at c.loop-param.invariant
