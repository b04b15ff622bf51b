use Rattle.std.proofs.Common.{arith}
use Rattle.std.proofs.lemmas.List.{drop_more, drop_all}
use Rattle.jr_bind.proofs.LeftOut.{taking_as}
use Rattle.jr_bind.proofs.rounds.take_edges.Goals as goal

pub loop-at-init : goal.loop-at-init
loop-at-init c = λ edges bound left h. h

pub loop-at-preserved : goal.loop-at-preserved
loop-at-preserved c = λ edges bound left h. c.in_ok-take_edge.ensures edges bound left _ (taking_as edges bound _ left _ _ _ _ (drop_more c.args.all.now c.loop-at.at-index _ (omega arith)) (c.loop-at.invariant edges bound left h))

pub returns : goal.returns
returns c = λ edges bound left h. taking_as edges bound _ left _ _ _ _ (drop_all c.loop-at.at-index c.args.all.now (omega arith)) (c.loop-at.invariant edges bound left h)
