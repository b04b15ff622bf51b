use Rattle.jr_members.specs.Sources.{ArePlaced}
use Rattle.jr_lookup.specs.Instances.{IsSeeking}
use Rattle.jr_lookup.proofs.instances.has_instance.Given as goal

abbrev pub invariant-loop-turn : goal.invariant-loop-turn
invariant-loop-turn l = ArePlaced l.rows l.places → IsSeeking l.rows l.place l.class l._turn l.around
