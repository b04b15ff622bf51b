use Rattle.std.proofs.Common.{length, ◌-◌}
use Rattle.jr_defs.specs.Referents.{Table}
use Rattle.jr_members.specs.Near.{IsSubclass}
use Rattle.jr_members.specs.Sources.{AreSeen}
use Rattle.jr_members.proofs.Rounded.{IsRising}
use Rattle.jr_members.proofs.members.World.is_in_subclass.Given as goal

abbrev pub invariant-loop-turn : goal.invariant-loop-turn
invariant-loop-turn l = (t : Table) → AreSeen l.self.under.rows.now t l.self.under.places.now l.self.supers.now
    → IsRising l.self.under.rows.now (IsSubclass l.self.under.rows.now t l.declaring l.at l.receiver) l.place l.around (length l.self.under.rows.now - l._turn)
