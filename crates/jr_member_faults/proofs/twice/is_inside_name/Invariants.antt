use Rattle.std.proofs.Common.{◌<◌, ◌-◌, length}
use Rattle.jr_places.specs.Places.{ArePlaces}
use Rattle.jr_member_faults.proofs.Inside.{IsRoundAt}
use Rattle.jr_member_faults.proofs.twice.is_inside_name.Given as goal

abbrev pub invariant-loop-turn : goal.invariant-loop-turn
invariant-loop-turn l = ArePlaces l.rows l.places → l.at < length l.rows → IsRoundAt l.rows l.at (length l.rows - l._turn) l.around
