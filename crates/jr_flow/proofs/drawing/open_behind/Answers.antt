use Rattle.std.proofs.Common.{◌≡◌, ◌+◌, ◌-◌, ◌∙◌, ap, ap₂, ◌++◌, arith}
use Rattle.std.proofs.lemmas.Result.{on_ok_weaker}
use Rattle.jr_flow.specs.Grouped.{hops_in}
use Rattle.jr_flow.specs.Walked.{first_at, opened, hops_from}
use Rattle.jr_flow.proofs.drawing.open_behind.Goals as goal

pub returns : goal.returns
returns c = λ fits. let states = c.args.states.now in let next : c.saturating_add.result ≡ c.args.place + 1 = omega (arith, c.saturating_add.ensures, fits) in
    on_ok_weaker c.open_hops.result (λ is. is ∙ ap₂ (λ a b. c.args.frontier.now.items ++ opened c.args.ends.now c.args.is_throw (hops_from (hops_in states.hops) a (b - a))) c.first_hop-first.ensures (c.first_hop-end.ensures ∙ ap (first_at states) next)) c.open_hops.ensures
