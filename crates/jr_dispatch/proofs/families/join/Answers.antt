use Rattle.std.proofs.Common.{refl, arith}
use Rattle.std.proofs.lemmas.List.{drop_more, drop_all}
use Rattle.jr_dispatch.proofs.Linking.{joining_start, joining_next, joining_end}
use Rattle.jr_dispatch.proofs.Searching.{at_in}
use Rattle.jr_dispatch.proofs.families.join.Goals as goal

pub loop-other-init : goal.loop-other-init
loop-other-init c = joining_start c.args.one c.args.all.now c.args.all.now _ refl

pub loop-other-preserved : goal.loop-other-preserved
loop-other-preserved c = joining_next c.args.one c.args.all.now _ _ _ _ _ _ (drop_more c.args.all.now c.loop-other.other-index _ (omega arith)) (at_in c.args.all.now c.loop-other.other-index _ (omega arith)) c.in_ok-add_link.ensures c.loop-other.invariant

pub returns : goal.returns
returns c = joining_end c.args.one c.args.all.now _ _ _ (drop_all c.loop-other.other-index c.args.all.now (omega arith)) c.loop-other.invariant
