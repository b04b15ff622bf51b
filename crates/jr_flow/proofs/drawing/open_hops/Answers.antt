use Rattle.std.proofs.Common.{◌∙◌, ap, ◌++◌, [], arith}
use Rattle.jr_flow.specs.Grouped.{hops_in}
use Rattle.jr_flow.specs.Walked.{opened, hop_then}
use Rattle.jr_flow.proofs.Shortening.{opened_next, opened_ends}
use Rattle.jr_flow.proofs.drawing.open_hops.Goals as goal

pub loop-number-preserved : goal.loop-number-preserved
loop-number-preserved c = opened_next c.args.ends.now c.args.is_throw (hops_in c.args.states.now.hops) c.loop-number.frontier.items c.open_one.new.frontier.items _ c.loop-number.number c.args.end (omega arith)
    (c.in_ok-open_one.ensures ∙ ap (λ o. c.loop-number.frontier.items ++ opened c.args.ends.now c.args.is_throw (hop_then o [])) c.hop.ensures) c.loop-number.invariant

pub returns : goal.returns
returns c = opened_ends c.args.ends.now c.args.is_throw (hops_in c.args.states.now.hops) c.loop-number.frontier.items _ c.loop-number.number c.args.end (omega arith) c.loop-number.invariant
