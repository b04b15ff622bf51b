use Rattle.std.proofs.Common.{sym, subst, arith}
use Rattle.jr_flow.specs.Woven.{HasBefore}
use Rattle.jr_flow.proofs.Woven.{none_put, list_put}
use Rattle.jr_flow.proofs.webs.put_list.Goals as goal

pub loop-nth-init : goal.loop-nth-init
loop-nth-init c = λ bound all linked counted. subst (λ k. HasBefore bound all c.args.links.now c.args.key k c.empty.new.self) (sym c.first-nth.ensures) (none_put bound all c.args.links.now c.args.key c.empty.new.self (c.in_ok-empty.ensures bound counted))

pub loop-nth-preserved : goal.loop-nth-preserved
loop-nth-preserved c = λ bound all linked counted. c.put_at.ensures bound c.args.key all linked (omega (arith, c.first-nth.ensures)) (omega (arith, c.end-nth-end.ensures)) (c.loop-nth.invariant bound all linked counted)

pub returns : goal.returns
returns c = λ bound all linked counted. list_put bound all c.args.links.now c.args.key c.loop-nth.nth c.loop-nth.set linked (c.loop-nth.invariant bound all linked counted) (omega (arith, c.loop-nth-test.false, c.end-nth-end.ensures))
