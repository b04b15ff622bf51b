use Rattle.std.proofs.Common.{arith}
use Rattle.std.proofs.lemmas.List.{drop_more, drop_all}
use Rattle.jr_dispatch.specs.Overridden.{overrides_directly}
use Rattle.jr_dispatch.proofs.Searching.{at_in, dividing_start, dividing_next, dividing_end}
use Rattle.jr_dispatch.proofs.dispatch.Methods.divide.Goals as goal

pub loop-other-init : goal.loop-other-init
loop-other-init c = λ t h m rows. dividing_start (overrides_directly c.args.self.under.rows.now t) c.args.method _ _ _

pub loop-other-preserved : goal.loop-other-preserved
loop-other-preserved c = λ t h m rows. dividing_next (overrides_directly c.args.self.under.rows.now t) c.args.method _ _ _ _ _ _ _ _ _ _ _ (drop_more c.args.left.now c.loop-other.other-index _ (omega arith))
    (c.overrides_directly-is_direct.ensures t h m (rows _ (at_in c.args.left.now c.loop-other.other-index _ (omega arith)))) c.in_ok-put.ensures.first c.in_ok-put.ensures.second (c.loop-other.invariant t h m rows)

pub returns : goal.returns
returns c = λ t h m rows. dividing_end (overrides_directly c.args.self.under.rows.now t) c.args.method _ _ _ _ _ _ (drop_all c.loop-other.other-index c.args.left.now (omega arith)) (c.loop-other.invariant t h m rows)
