use Rattle.std.proofs.Common.{◌≡◌, ◌++◌, drop, None}
use Rattle.jr_supers.specs.Above.{further_from}
use Rattle.jr_supers.proofs.above.further.Given as goal

abbrev pub invariant-loop-over : goal.invariant-loop-over
invariant-loop-over l = l.all.items ++ further_from l.links l.before (drop l.over-index l.supers) ≡ further_from l.links None l.supers
