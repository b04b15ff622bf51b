use Rattle.std.proofs.Common.{length}
use Rattle.jr_dispatch.specs.Families.{turns_left}
use Rattle.jr_bind.specs.Rounds.{IsReaching}
use Rattle.jr_bind.proofs.rounds.reaches_itself.Given as goal

abbrev pub decreases-loop-next : goal.decreases-loop-next
decreases-loop-next l = turns_left l.met (length l.fn.met.stamps.items) l.waiting.items

abbrev pub invariant-loop-next : goal.invariant-loop-next
invariant-loop-next l = IsReaching l.edges l.at (length l.fn.met.stamps.items) l.met l.waiting.items
