use Rattle.std.proofs.Common.{◌≡◌, drop}
use Rattle.jr_supers.specs.Above.{reach_object}
use Rattle.jr_supers.proofs.above.reach_object.Given as goal

abbrev pub invariant-loop-over : goal.invariant-loop-over
invariant-loop-over l = reach_object l.rows l.links (drop l.over-index l.supers) ≡ reach_object l.rows l.links l.supers
