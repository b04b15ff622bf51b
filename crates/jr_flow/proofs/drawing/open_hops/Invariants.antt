use Rattle.std.proofs.Common.{◌≡◌, ◌-◌, ◌++◌}
use Rattle.jr_flow.specs.Grouped.{hops_in}
use Rattle.jr_flow.specs.Walked.{opened, hops_from}
use Rattle.jr_flow.proofs.drawing.open_hops.Given as goal

abbrev pub invariant-loop-number : goal.invariant-loop-number
invariant-loop-number l = l.frontier.items ++ opened l.ends l.is_throw (hops_from (hops_in l.states.hops) l.number (l.end - l.number)) ≡ l.fn.frontier.items ++ opened l.ends l.is_throw (hops_from (hops_in l.states.hops) l.from (l.end - l.from))
