use Rattle.std.proofs.Common.{◌≡◌, ◌++◌, drop, map}
use Rattle.jr_flow.specs.Reached.{step_seen}
use Rattle.jr_kept.specs.Listed.{under_in}
use Rattle.jr_kept.specs.Spliced.{of_calls}
use Rattle.jr_kept.proofs.joined.push_calls.Given as goal

abbrev pub invariant-loop-call : goal.invariant-loop-call
invariant-loop-call l = map step_seen l.all.items ++ of_calls (under_in l.leaving.plain) (under_in l.leaving.thrown) (map step_seen l.inner) l.size (drop l.call-index l.calls) l.base
    ≡ map step_seen l.fn.all.items ++ of_calls (under_in l.leaving.plain) (under_in l.leaving.thrown) (map step_seen l.inner) l.size l.calls l.first
