use Rattle.std.proofs.Common.{◌≡◌, ◌++◌, drop}
use Rattle.jr_kept.specs.Carried.{values_by}
use Rattle.jr_kept.proofs.carried.values_of.Given as goal

abbrev pub invariant-loop-definition : goal.invariant-loop-definition
invariant-loop-definition l = l.values.items ++ values_by l.points l.handing l.count (drop l.definition-index l.pairs) ≡ values_by l.points l.handing l.count l.pairs
