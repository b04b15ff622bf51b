use Rattle.std.proofs.Common.{drop}
use Rattle.jr_dispatch.specs.Families.{IsJoining}
use Rattle.jr_dispatch.proofs.families.join.Given as goal

abbrev pub invariant-loop-other : goal.invariant-loop-other
invariant-loop-other l = IsJoining l.one l.all l.fn.links l.links (drop l.other-index l.all)
