use Rattle.std.proofs.Common.{sym, ◌∙◌}
use Rattle.jr_defs.specs.Referents.{entries}
use Rattle.jr_bind.specs.Ranked.{rank_in}
use Rattle.jr_bind.proofs.RowByRow.{open_outer, open_first}
use Rattle.jr_bind.proofs.edges.open_edge.Goals as goal

pub returns-in-Some : goal.returns-in-Some
returns-in-Some c = λ zero. open_outer c.args.ranked.now.sight.world.under.rows.now (entries c.args.ranked.now.sight.world.under.table.now) (rank_in c.args.ranked.now.ranks.now) c.args.low c.args.name c.outer_of.result zero (sym c.referent.ensures ∙ c.is_same.ensures.0 c.in_ok-claim.ensures) c.args.first c.in-Some._over c.in-Some.is c.outer_of.ensures.some

pub returns-in-None : goal.returns-in-None
returns-in-None c = λ zero. open_first c.args.ranked.now.sight.world.under.rows.now (entries c.args.ranked.now.sight.world.under.table.now) (rank_in c.args.ranked.now.ranks.now) c.args.low c.args.name c.outer_of.result zero (sym c.referent.ensures ∙ c.is_same.ensures.0 c.in_ok-claim.ensures) c.args.first c.outer_of.ensures.none c.in-None.is
