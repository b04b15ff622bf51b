use Rattle.jr_defs.specs.Referents.{Table}
use Rattle.jr_members.specs.declared.declared.MemberKind.{MemberKind}
use Rattle.jr_members.specs.Named.{IsClimbing}
use Rattle.jr_members.specs.Sources.{AreSeen, links_of, CanClimb}
use Rattle.jr_members.proofs.named.way_up.Given as goal

abbrev pub invariant-loop-turn : goal.invariant-loop-turn
invariant-loop-turn l = (t : Table) (kind : MemberKind) → AreSeen l.under.rows.now t l.under.places.now l.supers → CanClimb l.under.rows.now t l.supers kind l.lists l.over
    → IsClimbing l.under.rows.now t (links_of l.supers) kind l.over l.name l._turn l.way
