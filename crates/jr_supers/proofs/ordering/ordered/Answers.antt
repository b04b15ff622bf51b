use Rattle.std.proofs.Common.{◌≡◌, ◌∙◌, arith, sym, ap, subst, ◌++◌, None}
use Rattle.std.specs.Option.{option_to_list}
use Rattle.jr_supers.specs.Order.{IsSearching, searching}
use Rattle.jr_supers.proofs.Ordered.{one_step, one_turn, ends, no_items, nothing_left}
use Rattle.jr_supers.proofs.ordering.ordered.Goals as goal

pub loop-top-init : goal.loop-top-init
loop-top-init c = λ none start. subst (λ xs. IsSearching c.args.rows.now c.args.supers.now (searching c.args.met.now.items c.args.waiting.now.items xs)) (sym c.new-order.ensures.items) start

pub loop-top-smaller : goal.loop-top-smaller
loop-top-smaller c = one_turn c.args.rows.now c.args.supers.now _ _ _ _ _ _ _ c.in-Some.top (c.pop.ensures.items ∙ ap (λ o. c.pop.new.self.items ++ option_to_list o) c.in-Some.is) c.in_ok-step.ensures

pub loop-top-preserved : goal.loop-top-preserved
loop-top-preserved c = λ none start. subst (IsSearching c.args.rows.now c.args.supers.now) (sym c.in_ok-step.ensures)
    (one_step c.args.rows.now c.args.supers.now none _ _ _ _ c.in-Some.top (c.loop-top.invariant none start) (c.pop.ensures.items ∙ ap (λ o. c.pop.new.self.items ++ option_to_list o) c.in-Some.is))

pub returns : goal.returns
returns c = λ none start. let absent : c.pop.result ≡ None = search in
    ends c.args.rows.now c.args.supers.now _ _ _ (c.loop-top.invariant none start) (no_items _ (let len = nothing_left c.pop.result _ _ _ absent c.pop.ensures.cases in omega (arith, len, c.loop-top.waiting.ok.0)))
