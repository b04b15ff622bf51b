use Rattle.std.proofs.Common.{arith}
use Rattle.jr_defs.specs.Referents.{entries}
use Rattle.jr_bind.specs.Ranked.{rank_in}
use Rattle.jr_bind.proofs.Opening.{import_step, passed_all}
use Rattle.jr_bind.proofs.meeting.scan_imports.Goals as goal

pub loop-import-preserved : goal.loop-import-preserved
loop-import-preserved c = λ whole rows. import_step c.args.ranked.now.sight.world.under.rows.now whole.formed (entries c.args.ranked.now.sight.world.under.table.now) (rank_in c.args.ranked.now.ranks.now) c.args.low c.args.imports.now
    c.loop-import.import-index _ _ _ _ _ _ whole.few rows (omega arith) (c.loop-import.invariant whole rows) (c.is_up_to.ensures c.in_ok-claim.ensures) (λ lt. omega (arith, c.saturating_add-next.ensures)) (λ lt seeks. c.in_ok-met.ensures whole lt seeks)
    c.end_at-behind.ensures c.first_of-first.ensures

pub returns : goal.returns
returns c = λ whole rows. (
  c.loop-import.behind,
  c.is_up_to-2.ensures c.in_ok-claim-2.ensures,
  passed_all c.args.ranked.now.sight.world.under.rows.now (entries c.args.ranked.now.sight.world.under.table.now) (rank_in c.args.ranked.now.ranks.now) c.args.low c.args.imports.now
      c.loop-import.import-index _ _ (omega arith) (c.loop-import.invariant whole rows),
)
