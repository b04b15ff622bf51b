use Rattle.std.proofs.Common.{◌-◌}
use Rattle.jr_defs.specs.Referents.{Table}
use Rattle.jr_members.specs.Worlds.{IsWorld}
use Rattle.jr_lookup.proofs.Ordering.{IsWalking}
use Rattle.jr_lookup.proofs.choice.is_earlier.Given as goal

abbrev pub invariant-loop-turn : goal.invariant-loop-turn
invariant-loop-turn l = (t : Table) → IsWorld t l.world → IsWalking l.world.under.rows.now t l.over l.one l.other l.here (l.turns - l._turn)
