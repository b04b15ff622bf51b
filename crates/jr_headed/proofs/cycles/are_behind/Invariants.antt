use Rattle.std.proofs.Common.{length, drop}
use Rattle.jr_places.specs.Stamps.{IsEmptied}
use Rattle.jr_headed.specs.Cycles.{IsPassing}
use Rattle.jr_headed.proofs.cycles.are_behind.Given as goal

abbrev pub invariant-loop-at : goal.invariant-loop-at
invariant-loop-at l = IsEmptied l.fn.passed (length l.rows) → IsPassing l.rows l.supers l.order l.passed (drop l.at-index l.order)
