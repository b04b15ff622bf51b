use Rattle.std.proofs.Common.{◌≡◌, ℕ, ◌<◌, List, length, Some, slice_get}
use Rattle.jr_flow_defs.specs.declared.point.Point.{Point}
use Rattle.jr_flow_defs.specs.Kept.{HasOneCopy}
use Rattle.jr_kept.specs.Named.{AreNames, origin_in, old_naming}
use Rattle.jr_kept.specs.Ordered.{Tells}
use Rattle.jr_kept.specs.Copied.{AreCounted, IsEvent}
use Rattle.jr_kept.proofs.copies.put_events.Given as goal

abbrev pub invariant-loop-number : goal.invariant-loop-number
invariant-loop-number l = (origin : List ℕ) (at count : ℕ) → AreCounted origin l.names.body (length origin) l.copies → AreNames l.names.body count (old_naming l.names) at l.points l.of_points
    → Tells l.fn.lost l.lost ((k : ℕ) (x : Point) → k < l.number → slice_get l.points k ≡ Some x → IsEvent l.names.rows.now l.names.dropped x → HasOneCopy (origin_in origin) x.row)
