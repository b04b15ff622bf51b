use Rattle.std.proofs.Common.{◌≡◌, length, subst, arith}
use Rattle.jr_flow.specs.Linked.{AreFilled}
use Rattle.std.proofs.lemmas.Option.{slice_get-get_or}
use Rattle.jr_flow.proofs.links.Links.fill.Goals as goal

pub loop-nth-init : goal.loop-nth-init
loop-nth-init c = λ rises h. h

pub loop-nth-preserved : goal.loop-nth-preserved
loop-nth-preserved c = λ rises h. c.in_ok-push.ensures c.args.pairs.now c.loop-nth.nth rises (slice_get-get_or c.args.pairs.now c.loop-nth.nth _ (omega arith)) (c.loop-nth.invariant rises h)

pub returns : goal.returns
returns c = λ rises h. let all : c.loop-nth.nth ≡ length c.args.pairs.now = omega arith in subst (λ k. AreFilled c.args.pairs.now k c.loop-nth.self) all (c.loop-nth.invariant rises h)
