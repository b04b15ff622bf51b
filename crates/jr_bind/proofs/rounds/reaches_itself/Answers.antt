use Rattle.std.proofs.Common.{◌≡◌, ◌∙◌, arith, ap, ◌++◌, length, None}
use Rattle.std.specs.Option.{option_to_list}
use Rattle.jr_dispatch.proofs.Spreading.{no_numbers, nothing_left}
use Rattle.jr_bind.proofs.Reached.{reaching_start, reaching_next, reaching_end, turn_less}
use Rattle.jr_bind.proofs.rounds.reaches_itself.Goals as goal

pub loop-next-init : goal.loop-next-init
loop-next-init c = let empty = c.in_ok-empty.ensures (length c.args.met.now.stamps.items) c.requires in
    reaching_start c.args.edges.now c.args.at (length c.args.met.now.stamps.items) _ _ _ _ empty c.new-waiting.ensures.items (c.in_ok-put_next.ensures (length c.args.met.now.stamps.items) empty.counted)

pub loop-next-smaller : goal.loop-next-smaller
loop-next-smaller c = turn_less (length c.args.met.now.stamps.items) _ _ _ _ _ _ c.in-Some.next (c.pop.ensures.items ∙ ap (λ o. c.pop.new.self.items ++ option_to_list o) c.in-Some.is)
    (c.in_ok-put_next-2.ensures (length c.args.met.now.stamps.items) c.loop-next.invariant.counted)

pub loop-next-preserved : goal.loop-next-preserved
loop-next-preserved c = reaching_next c.args.edges.now c.args.at (length c.args.met.now.stamps.items) _ _ _ _ _ c.in-Some.next (c.pop.ensures.items ∙ ap (λ o. c.pop.new.self.items ++ option_to_list o) c.in-Some.is) c.loop-next.invariant
    (c.in_ok-put_next-2.ensures (length c.args.met.now.stamps.items) c.loop-next.invariant.counted)

pub returns-clause-told : goal.returns-clause-told
returns-clause-told c = λ edges_are. let absent : c.pop.result ≡ None = search in
    reaching_end c.args.edges.now c.args.at (length c.args.met.now.stamps.items) _ _ _ (no_numbers _ (let len = nothing_left c.pop.result _ _ _ absent c.pop.ensures.cases in omega (arith, len, c.loop-next.waiting.ok.0))) c.has.ensures edges_are
    c.loop-next.invariant
