use Rattle.jr_defs.specs.Referents.{Table}
use Rattle.jr_members.specs.Worlds.{IsWorld}
use Rattle.jr_lookup.specs.Choices.{IsLastWith}
use Rattle.jr_lookup.proofs.choice.last_with.Given as goal

abbrev pub invariant-loop-nth : goal.invariant-loop-nth
invariant-loop-nth l = (t : Table) → IsWorld t l.world → IsLastWith l.world.under.rows.now t l.direct l.at l.nth l.found
