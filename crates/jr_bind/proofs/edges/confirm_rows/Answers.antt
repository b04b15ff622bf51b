use Rattle.std.proofs.Common.{◌≡◌, subst, arith}
use Rattle.jr_defs.specs.Referents.{entries}
use Rattle.jr_bind.specs.Ranked.{rank_in}
use Rattle.jr_bind.specs.Edges.{AreConfirmedTo}
use Rattle.jr_bind.proofs.RowByRow.{rows_start, rows_next}
use Rattle.jr_bind.proofs.edges.confirm_rows.Goals as goal

pub loop-at-init : goal.loop-at-init
loop-at-init c = λ whole none. rows_start c.args.ranked.now.sight.world.under.rows.now (entries c.args.ranked.now.sight.world.under.table.now) (rank_in c.args.ranked.now.ranks.now) c.args.edges.now none

pub loop-at-preserved : goal.loop-at-preserved
loop-at-preserved c = λ whole none. let row = c.in_ok-confirm_row.ensures whole in rows_next c.args.ranked.now.sight.world.under.rows.now (entries c.args.ranked.now.sight.world.under.table.now) (rank_in c.args.ranked.now.ranks.now) _ _ row.0 c.loop-at.at (c.loop-at.invariant whole none) row.1

pub returns : goal.returns
returns c = λ whole none. let all : c.loop-at.at ≡ c.args.end = omega arith in subst (λ n. AreConfirmedTo c.args.ranked.now.sight.world.under.rows.now (entries c.args.ranked.now.sight.world.under.table.now) (rank_in c.args.ranked.now.ranks.now) c.loop-at.edges n) all (c.loop-at.invariant whole none)
