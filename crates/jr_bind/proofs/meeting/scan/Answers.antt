use Rattle.std.proofs.Common.{◌≡◌, subst, sym, arith, ℕ}
use Rattle.jr_tree.specs.Rows.{end}
use Rattle.jr_defs.specs.Referents.{entries}
use Rattle.jr_bind.specs.Edges.{IsScan}
use Rattle.jr_bind.specs.Ranked.{rank_in}
use Rattle.jr_bind.proofs.Opening.{scan_step}
use Rattle.jr_bind.proofs.meeting.scan.Goals as goal

pub loop-at-preserved : goal.loop-at-preserved
loop-at-preserved c = λ whole lt seeks. scan_step c.args.ranked.now.sight.world.under.rows.now whole.formed (entries c.args.ranked.now.sight.world.under.table.now) (rank_in c.args.ranked.now.ranks.now) c.args.low c.args.own c.args.from c.loop-at.at
    _ _ _ _ whole.few lt seeks (c.loop-at.invariant whole lt seeks) c.loop-at-test.true (omega arith) (λ k s. c.in_ok-met.ensures.open whole k s) (λ k s. c.in_ok-met.ensures.same whole k s)
    c.end_at.result c.end_at-till.result c.end_at.ensures c.end_at-till.ensures c.in_ok-claim.ensures c.first_of-first.ensures

pub returns : goal.returns
returns c = λ whole lt seeks. let inv = c.loop-at.invariant whole lt seeks in let low = inv.0 in let same : c.loop-at.at ≡ c.args.from = omega arith in
    subst (λ x. IsScan c.args.ranked.now.sight.world.under.rows.now (entries c.args.ranked.now.sight.world.under.table.now) (rank_in c.args.ranked.now.ranks.now) c.args.low c.args.own x (end c.args.ranked.now.sight.world.under.rows.now c.args.from) c.loop-at.first) same inv.2
