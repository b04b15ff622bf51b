use Rattle.std.proofs.Common.{refl, arith}
use Rattle.std.proofs.lemmas.List.{drop_more, drop_all}
use Rattle.jr_dispatch.proofs.Linking.{all_start, all_next, all_end}
use Rattle.jr_dispatch.proofs.Searching.{at_in}
use Rattle.jr_dispatch.proofs.families.add_all.Goals as goal

pub loop-method-init : goal.loop-method-init
loop-method-init c = λ t h rows. all_start c.args.methods.under.rows.now t c.args.all.now c.args.all.now _ refl

pub loop-method-preserved : goal.loop-method-preserved
loop-method-preserved c = λ t h rows. all_next c.args.methods.under.rows.now t c.args.all.now _ _ _ _ _ _ (drop_more c.args.all.now c.loop-method.method-index _ (omega arith))
    (c.in_ok-add_overridden.ensures t h (rows _ (at_in c.args.all.now c.loop-method.method-index _ (omega arith)))) (c.loop-method.invariant t h rows)

pub returns : goal.returns
returns c = λ t h rows. all_end c.args.methods.under.rows.now t c.args.all.now _ _ _ (drop_all c.loop-method.method-index c.args.all.now (omega arith)) (c.loop-method.invariant t h rows)
