use Rattle.std.proofs.Common.{refl, arith}
use Rattle.std.proofs.lemmas.List.{drop_more, drop_all}
use Rattle.jr_dispatch.proofs.Linking.{those_start, those_next, those_end}
use Rattle.jr_dispatch.proofs.Searching.{at_in}
use Rattle.jr_dispatch.proofs.families.add_those.Goals as goal

pub loop-other-init : goal.loop-other-init
loop-other-init c = λ t h m rows. those_start c.args.methods.under.rows.now t c.args.method c.args.all.now c.args.all.now _ refl

pub loop-other-preserved : goal.loop-other-preserved
loop-other-preserved c = λ t h m rows. those_next c.args.methods.under.rows.now t c.args.method c.args.all.now _ _ _ _ _ _ _ (drop_more c.args.all.now c.loop-other.other-index _ (omega arith))
    (c.in_ok-is_over.ensures t h m (rows _ (at_in c.args.all.now c.loop-other.other-index _ (omega arith)))) c.in_ok-add_link_if.ensures (c.loop-other.invariant t h m rows)

pub returns : goal.returns
returns c = λ t h m rows. those_end c.args.methods.under.rows.now t c.args.method c.args.all.now _ _ _ (drop_all c.loop-other.other-index c.args.all.now (omega arith)) (c.loop-other.invariant t h m rows)
