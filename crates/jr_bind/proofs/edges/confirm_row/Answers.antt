use Rattle.jr_defs.specs.Referents.{entries}
use Rattle.jr_bind.specs.Ranked.{rank_in}
use Rattle.jr_bind.proofs.RowByRow.{row_goes}
use Rattle.jr_bind.proofs.edges.confirm_row.Goals as goal

pub returns : goal.returns
returns c = λ whole. row_goes c.args.ranked.now.sight.world.under.rows.now (entries c.args.ranked.now.sight.world.under.table.now) (rank_in c.args.ranked.now.ranks.now) c.args.at _ _ _ (c.in_ok-confirm_import.ensures whole) c.in_ok-confirm_type.ensures (c.in_ok-confirm_name.ensures whole)
