use Rattle.std.proofs.Common.{arith}
use Rattle.std.proofs.lemmas.List.{drop_more, drop_all}
use Rattle.jr_members.proofs.Adding.{ups_start, ups_next, ups_end}
use Rattle.jr_members.proofs.wanted.push_further.Goals as goal

pub loop-from-init : goal.loop-from-init
loop-from-init c = λ t right. ups_start c.args.rows.now t c.args.linked c.args.direct.now _

pub loop-from-preserved : goal.loop-from-preserved
loop-from-preserved c = λ t right. ups_next c.args.rows.now t c.args.linked c.args.direct.now _ _ _ _ _ _ (drop_more c.args.direct.now c.loop-from.from-index 0 (omega arith)) (c.loop-from.invariant t right) (c.in_ok-push_up.ensures t right)

pub returns : goal.returns
returns c = λ t right. ups_end c.args.rows.now t c.args.linked c.args.direct.now _ _ _ (drop_all c.loop-from.from-index c.args.direct.now (omega arith)) (c.loop-from.invariant t right)
