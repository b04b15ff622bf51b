use Rattle.std.proofs.Common.{◌≡◌, ◌∙◌, sym, None}
use Rattle.jr_flow.specs.Spread.{lets}
use Rattle.jr_flow.proofs.Searching.{one_searched, search_ends}
use Rattle.jr_flow.proofs.search.Search.finish.Goals as goal

pub loop-nth-init : goal.loop-nth-init
loop-nth-init c = λ bound starts all key linked h. h

pub loop-nth-preserved : goal.loop-nth-preserved
loop-nth-preserved c = λ bound starts all key linked h. let on = c.loop-nth.invariant bound starts all key linked h in
    one_searched bound (lets c.args.gate.now.set.now c.args.gate.now.is_inside) starts key all c.loop-nth.self c.loop-nth.nth on c.enter_all.new.self c.in-Some.number (sym c.at.ensures ∙ c.in-Some.is) (c.in_ok-enter_all.ensures bound all linked on.is)

pub returns-in_default : goal.returns-in_default
returns-in_default c = λ bound starts all key linked h. let none : c.at.result ≡ None = search in
    search_ends bound (lets c.args.gate.now.set.now c.args.gate.now.is_inside) starts key all c.loop-nth.self c.loop-nth.nth (c.loop-nth.invariant bound starts all key linked h) (sym c.at.ensures ∙ none)
