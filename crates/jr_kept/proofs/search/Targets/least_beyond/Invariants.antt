use Rattle.std.proofs.Common.{take}
use Rattle.jr_kept.specs.Searched.{IsLeast}
use Rattle.jr_kept.proofs.search.Targets.least_beyond.Given as goal

abbrev pub invariant-loop-name : goal.invariant-loop-name
invariant-loop-name l = IsLeast l.other.met l.name-items (take l.name-index l.name-items) l.least
