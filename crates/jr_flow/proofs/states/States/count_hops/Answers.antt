use Rattle.std.proofs.Common.{◌≡◌, ◌+◌, ◌-◌, ◌∙◌, ap, ap₂, arith}
use Rattle.jr_flow.specs.Walked.{first_at}
use Rattle.jr_flow.proofs.states.States.count_hops.Goals as goal

pub returns : goal.returns
returns c = λ fits. let next : c.saturating_add.result ≡ c.args.place + 1 = omega (arith, c.saturating_add.ensures, fits) in
    let is : c.saturating_sub.result ≡ c.first_hop.result - c.first_hop-first.result = omega (arith, c.saturating_sub.ensures) in
    is ∙ ap₂ (λ a b. a - b) (c.first_hop.ensures ∙ ap (first_at c.args.self.now) next) c.first_hop-first.ensures
