use Rattle.std.proofs.Common.{◌≡◌, ◌∙◌, arith, ap, ◌++◌, None}
use Rattle.std.specs.Option.{option_to_list}
use Rattle.jr_dispatch.proofs.Spreading.{no_numbers, nothing_left, spread_start, spread_next, spread_end, turn_less}
use Rattle.jr_dispatch.proofs.families.linked_to.Goals as goal

pub loop-next-init : goal.loop-next-init
loop-next-init c = spread_start c.args.links.now c.args.method c.args.bound _ _ _ _ _ _ c.in_ok-met.ensures (c.add.ensures c.args.bound c.in_ok-met.ensures.counted) c.new-waiting.ensures.items c.in_ok-push.ensures.items c.new-all.ensures.items

pub loop-next-smaller : goal.loop-next-smaller
loop-next-smaller c = turn_less c.args.bound _ _ _ _ _ _ c.in-Some.next (c.pop.ensures.items ∙ ap (λ o. c.pop.new.self.items ++ option_to_list o) c.in-Some.is) (c.in_ok-put_linked.ensures c.args.bound c.loop-next.invariant.counted)

pub loop-next-preserved : goal.loop-next-preserved
loop-next-preserved c = spread_next c.args.links.now c.args.method c.args.bound _ _ _ _ _ _ _ c.in-Some.next (c.pop.ensures.items ∙ ap (λ o. c.pop.new.self.items ++ option_to_list o) c.in-Some.is) c.in_ok-push-2.ensures.items c.loop-next.invariant
    (c.in_ok-put_linked.ensures c.args.bound c.loop-next.invariant.counted)

pub returns : goal.returns
returns c = λ below. let absent : c.pop.result ≡ None = search in
    spread_end c.args.links.now c.args.method c.args.bound _ _ _ (no_numbers _ (let len = nothing_left c.pop.result _ _ _ absent c.pop.ensures.cases in omega (arith, len, c.loop-next.waiting.ok.0))) below c.loop-next.invariant
