use Rattle.std.proofs.Common.{◌≡◌, true}
use Rattle.jr_bind.specs.Ranked.{rank_in}
use Rattle.jr_bind.specs.Edges.{AreLedOn}
use Rattle.jr_bind.proofs.edges.are_led_on.Given as goal

abbrev pub invariant-loop-at : goal.invariant-loop-at
invariant-loop-at l = l.are ≡ true → AreLedOn l.ranked.sight.world.under.rows.now (rank_in l.ranked.ranks.now) l.edges l.at
