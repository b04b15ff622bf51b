use Rattle.std.proofs.Common.{sym, ◌∙◌, ap, slice_get}
use Rattle.jr_flow.specs.Grouped.{hops_in}
use Rattle.jr_flow.specs.Walked.{first_at, hops_from}
use Rattle.jr_flow.proofs.Shortening.{one_way}
use Rattle.jr_flow.proofs.drawing.only_hop.Goals as goal

pub returns-in-Some : goal.returns-in-Some
returns-in-Some c = λ fits g flow lt none. let states = c.args.states.now in let i = c.args.place in
    one_way states g i (first_at states i) c.in-Some.hop flow lt none (ap (hops_from (hops_in states.hops) (first_at states i)) (sym (c.count_hops.ensures fits) ∙ c.if-count_hops-ne1.false))
    (ap (slice_get (hops_in states.hops)) (sym c.first_hop-first.ensures) ∙ sym c.hop.ensures ∙ c.in-Some.is)
