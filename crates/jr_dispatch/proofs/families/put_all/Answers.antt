use Rattle.std.proofs.Common.{refl, arith}
use Rattle.std.proofs.lemmas.List.{drop_more, drop_all}
use Rattle.jr_dispatch.proofs.Searching.{at_in}
use Rattle.jr_dispatch.proofs.Spreading.{put_start, put_next, put_end}
use Rattle.jr_dispatch.proofs.families.put_all.Goals as goal

pub loop-at-init : goal.loop-at-init
loop-at-init c = λ bound counted. put_start bound c.args.all.now c.args.all.now _ _ refl counted

pub loop-at-preserved : goal.loop-at-preserved
loop-at-preserved c = λ bound counted. put_next bound c.args.all.now _ _ _ _ _ _ _ _ _ (drop_more c.args.all.now c.loop-at.at-index _ (omega arith)) (at_in c.args.all.now c.loop-at.at-index _ (omega arith))
    (c.in_ok-put.ensures bound (c.loop-at.invariant bound counted).counted) (c.loop-at.invariant bound counted)

pub returns : goal.returns
returns c = λ bound counted. put_end bound c.args.all.now _ _ _ _ _ (drop_all c.loop-at.at-index c.args.all.now (omega arith)) (c.loop-at.invariant bound counted)
