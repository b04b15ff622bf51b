use Rattle.std.proofs.Common.{refl, arith}
use Rattle.std.proofs.lemmas.List.{drop_more, drop_all}
use Rattle.jr_dispatch.proofs.Linking.{adding_start, adding_next, adding_end}
use Rattle.jr_dispatch.proofs.families.add_all_members.Goals as goal

pub loop-over-init : goal.loop-over-init
loop-over-init c = λ t h m. adding_start c.args.world.now.under.rows.now t h.world_is.seen.above.well.headed c.args.method c.args.overs.now c.args.overs.now _ refl

pub loop-over-preserved : goal.loop-over-preserved
loop-over-preserved c = λ t h m. adding_next c.args.world.now.under.rows.now t h.world_is.seen.above.well.headed c.args.method c.args.overs.now _ _ _ _ _ _ (drop_more c.args.overs.now c.loop-over.over-index _ (omega arith)) (c.in_ok-add_members.ensures t h m)
    (c.loop-over.invariant t h m)

pub returns : goal.returns
returns c = λ t h m. adding_end c.args.world.now.under.rows.now t h.world_is.seen.above.well.headed c.args.method c.args.overs.now _ _ _ (drop_all c.loop-over.over-index c.args.overs.now (omega arith)) (c.loop-over.invariant t h m)
