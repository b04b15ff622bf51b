use Rattle.std.proofs.Common.{◌≡◌, ◌+◌}
use Rattle.jr_defs.specs.Referents.{Table}
use Rattle.jr_plain.specs.Conversions.{is_castable_from}
use Rattle.jr_supers.specs.Supers.{AreSupersOf}
use Rattle.jr_types.proofs.conversions.is_castable.Given as goal

abbrev pub invariant-loop-more : goal.invariant-loop-more
invariant-loop-more l = (t : Table) → AreSupersOf l.rows t l.supers → l.is ≡ is_castable_from l.rows t l.from.element l.to.element (l.low + l.more) (l.high + l.more)
