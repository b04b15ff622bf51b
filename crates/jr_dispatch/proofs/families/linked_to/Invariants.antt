use Rattle.jr_dispatch.specs.Families.{turns_left, IsSpreading}
use Rattle.jr_dispatch.proofs.families.linked_to.Given as goal

abbrev pub decreases-loop-next : goal.decreases-loop-next
decreases-loop-next l = turns_left l.met l.bound l.waiting.items

abbrev pub invariant-loop-next : goal.invariant-loop-next
invariant-loop-next l = IsSpreading l.links l.method l.bound l.met l.waiting.items l.all.items
