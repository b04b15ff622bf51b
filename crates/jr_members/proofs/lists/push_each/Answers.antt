use Rattle.std.proofs.Common.{arith}
use Rattle.std.proofs.lemmas.List.{drop_more, drop_all}
use Rattle.jr_members.proofs.Each.{pushing_start, pushing_item, pushing_next, pushing_end}
use Rattle.jr_members.proofs.lists.push_each.Goals as goal

pub loop-at-init : goal.loop-at-init
loop-at-init c = λ bound h below. pushing_start bound _ _ _ h below

pub loop-at-preserved : goal.loop-at-preserved
loop-at-preserved c = λ bound h below. let inv = c.loop-at.invariant bound h below in let is = drop_more c.args.some.now c.loop-at.at-index 0 (omega arith) in
    pushing_next bound c.loop-at.stamps _ c.loop-at.all.items _ _ _ _ _ is inv (c.in_ok-push_new.ensures bound inv.stamped (pushing_item bound c.loop-at.stamps c.loop-at.all.items _ _ _ _ is inv))

pub returns : goal.returns
returns c = λ bound h below. pushing_end bound _ _ _ _ (drop_all c.loop-at.at-index c.args.some.now (omega arith)) (c.loop-at.invariant bound h below)
