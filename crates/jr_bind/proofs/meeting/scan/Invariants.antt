use Rattle.std.proofs.Common.{◌<◌, ◌≤◌, length}
use Rattle.jr_tree.specs.Rows.{end, sought_at}
use Rattle.jr_defs.specs.Formed.{SeeksType}
use Rattle.jr_defs.specs.Referents.{entries}
use Rattle.jr_bind.specs.Edges.{IsScan}
use Rattle.jr_bind.specs.Edges.{IsWhole}
use Rattle.jr_bind.specs.Ranked.{rank_in}
use Rattle.jr_bind.proofs.meeting.scan.Given as goal

abbrev pub invariant-loop-at : goal.invariant-loop-at
invariant-loop-at l = IsWhole l.ranked.sight → l.from < length l.ranked.sight.world.under.rows.now → SeeksType (sought_at l.ranked.sight.world.under.rows.now l.from)
    → (l.from ≤ l.at) × (l.at ≤ end l.ranked.sight.world.under.rows.now l.from) × IsScan l.ranked.sight.world.under.rows.now (entries l.ranked.sight.world.under.table.now) (rank_in l.ranked.ranks.now) l.low l.own l.at (end l.ranked.sight.world.under.rows.now l.from) l.first

abbrev pub decreases-loop-at : goal.decreases-loop-at
decreases-loop-at l = l.at
