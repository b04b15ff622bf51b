use Rattle.std.proofs.Common.{◌≡◌, drop, None}
use Rattle.jr_supers.specs.Above.{last_from}
use Rattle.jr_supers.proofs.above.last_of.Given as goal

abbrev pub invariant-loop-at : goal.invariant-loop-at
invariant-loop-at l = last_from l.before (drop l.at-index l.all) ≡ last_from None l.all
