use Rattle.jr_defs.specs.Referents.{Table}
use Rattle.jr_members.specs.Worlds.{IsWorld}
use Rattle.jr_lookup.specs.Levels.{HasMemberAs}
use Rattle.jr_lookup.specs.Outward.{IsWalking}
use Rattle.jr_lookup.proofs.simple.Sight.innermost_with.Given as goal

abbrev pub invariant-loop-turn : goal.invariant-loop-turn
invariant-loop-turn l = (t : Table) → IsWorld t l.self.world → IsWalking l.self.world.under.rows.now (HasMemberAs l.self.world.under.rows.now t l.kind l.name) l.place l._turn l.around
