use Rattle.jr_defs.specs.Referents.{Table}
use Rattle.jr_defs.specs.Members.{MemberOf}
use Rattle.jr_members.specs.Worlds.{IsWorld}
use Rattle.jr_lookup.specs.Outward.{IsWalking}
use Rattle.jr_lookup.proofs.simple.Sight.enclosing_new.Given as goal

abbrev pub invariant-loop-turn : goal.invariant-loop-turn
invariant-loop-turn l = (t : Table) → IsWorld t l.self.world → IsWalking l.self.world.under.rows.now (λ e. MemberOf l.self.world.under.rows.now t e l.class) l.place l._turn l.around
