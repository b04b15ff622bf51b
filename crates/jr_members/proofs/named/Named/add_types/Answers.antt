use Rattle.std.proofs.Common.{arith}
use Rattle.std.proofs.lemmas.List.{drop_more, drop_all}
use Rattle.jr_members.proofs.Adding.{types_start, types_ready, types_next, types_end}
use Rattle.jr_members.proofs.named.Named.add_types.Goals as goal

pub loop-over-init : goal.loop-over-init
loop-over-init c = λ t kind right can none. types_start c.args.sources.under.rows.now t c.args.sources.supers.now right.seen.above kind _ _ _ can none c.order-order.ensures

pub loop-over-preserved : goal.loop-over-preserved
loop-over-preserved c = λ t kind right can none. let p = c.args.sources.under.rows.now in let inv = c.loop-over.invariant t kind right can none in let is = drop_more c.order-order.result.now c.loop-over.over-index 0 (omega arith) in
    types_next p t c.args.sources.supers.now right.seen.above kind _ _ _ _ _ _ _ is inv (c.in_ok-add_type.ensures t kind right (types_ready p t c.args.sources.supers.now right.seen.above kind _ _ _ _ _ is inv))

pub returns : goal.returns
returns c = λ t kind right can none. types_end c.args.sources.under.rows.now t c.args.sources.supers.now right.seen.above kind _ _ _ (drop_all c.loop-over.over-index c.order-order.result.now (omega arith)) (c.loop-over.invariant t kind right can none)
