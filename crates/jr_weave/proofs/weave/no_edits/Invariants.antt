use Rattle.std.proofs.Common.{◌≡◌, ◌++◌, drop, map}
use Rattle.jr_weave.specs.Weaving.{no_edits}
use Rattle.jr_weave.proofs.weave.no_edits.Given as goal

abbrev pub invariant-loop-unit : goal.invariant-loop-unit
invariant-loop-unit l = l.all.items ++ map no_edits (drop l.unit-index l.units) ≡ map no_edits l.units
