use Rattle.std.proofs.Common.{◌≡◌, ◌∙◌, sym, subst, arith}
use Rattle.jr_flow.specs.Spread.{lets, EntersBefore}
use Rattle.jr_flow.proofs.Searching.{none_entered, list_entered}
use Rattle.jr_flow.proofs.search.Search.enter_all.Goals as goal

pub loop-nth-init : goal.loop-nth-init
loop-nth-init c = λ bound all linked is. let enters = lets c.args.gate.now.set.now c.args.gate.now.is_inside in
    subst (EntersBefore bound enters c.args.self.now c.args.self.now all c.args.links.now c.args.key) (sym c.first-nth.ensures) (none_entered bound enters c.args.self.now all c.args.links.now c.args.key is)

pub loop-nth-preserved : goal.loop-nth-preserved
loop-nth-preserved c = λ bound all linked is. c.in_ok-enter_at.ensures bound c.args.key all c.args.self.now linked (omega (arith, c.first-nth.ensures)) (omega (arith, c.end-nth-end.ensures)) (c.loop-nth.invariant bound all linked is)

pub returns : goal.returns
returns c = λ bound all linked is. list_entered bound (lets c.args.gate.now.set.now c.args.gate.now.is_inside) c.args.self.now c.loop-nth.self all c.args.links.now c.args.key c.loop-nth.nth linked (c.loop-nth.invariant bound all linked is)
    (omega (arith, c.loop-nth-test.false, c.end-nth-end.ensures))
