use Rattle.std.proofs.Common.{sym, ◌∙◌}
use Rattle.jr_defs.specs.Referents.{entries}
use Rattle.jr_bind.specs.Ranked.{rank_in}
use Rattle.jr_bind.proofs.RowByRow.{all_confirmed}
use Rattle.jr_bind.proofs.edges.edges_of.Goals as goal

pub returns : goal.returns
returns c = λ whole. let rows = c.in-Ok.ensures in all_confirmed c.args.ranked.now.sight.world.under.rows.now (entries c.args.ranked.now.sight.world.under.table.now) (rank_in c.args.ranked.now.ranks.now) _ c.in-Ok.end rows.1 (c.in_ok-confirm_rows.ensures whole c.new-edges.ensures) (c.in_ok-are.ensures c.in_ok-claim.ensures)
