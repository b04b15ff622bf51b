use Rattle.std.proofs.Common.{refl, arith}
use Rattle.std.proofs.lemmas.List.{drop_more, drop_all}
use Rattle.jr_bind.proofs.Reached.{at_in, put_start, put_more, put_end}
use Rattle.jr_bind.proofs.rounds.put_all.Goals as goal

pub loop-at-init : goal.loop-at-init
loop-at-init c = λ bound counted. put_start bound c.args.all.now c.args.all.now _ _ refl counted

pub loop-at-preserved : goal.loop-at-preserved
loop-at-preserved c = λ bound counted. put_more bound c.args.all.now _ _ _ _ _ _ _ _ _ (drop_more c.args.all.now c.loop-at.at-index _ (omega arith)) (at_in c.args.all.now c.loop-at.at-index _ (omega arith))
    (c.in_ok-put.ensures bound (c.loop-at.invariant bound counted).counted) (c.loop-at.invariant bound counted)

pub returns : goal.returns
returns c = λ bound counted. put_end bound c.args.all.now _ _ _ _ _ (drop_all c.loop-at.at-index c.args.all.now (omega arith)) (c.loop-at.invariant bound counted)
