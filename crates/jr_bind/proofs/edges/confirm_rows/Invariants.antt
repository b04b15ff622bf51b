use Rattle.std.proofs.Common.{◌≡◌, []}
use Rattle.jr_defs.specs.Referents.{entries}
use Rattle.jr_bind.specs.Ranked.{rank_in}
use Rattle.jr_bind.specs.Edges.{IsWhole, AreConfirmedTo}
use Rattle.jr_bind.proofs.edges.confirm_rows.Given as goal

abbrev pub invariant-loop-at : goal.invariant-loop-at
invariant-loop-at l = IsWhole l.ranked.sight → l.fn.edges ≡ [] → AreConfirmedTo l.ranked.sight.world.under.rows.now (entries l.ranked.sight.world.under.table.now) (rank_in l.ranked.ranks.now) l.edges l.at
