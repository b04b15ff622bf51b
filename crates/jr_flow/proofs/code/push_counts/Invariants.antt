use Rattle.std.proofs.Common.{◌≡◌, ℕ, ◌+◌, ◌^◌, ◌<◌, ◌++◌, ◌-◌}
use Rattle.jr_tree.specs.Rows.{parent}
use Rattle.jr_flow.specs.Coded.{counts_from}
use Rattle.jr_flow.proofs.code.push_counts.Given as goal

abbrev pub invariant-loop-at : goal.invariant-loop-at
invariant-loop-at l = ((n : ℕ) → n < l.end → parent l.rows n + 1 < 2 ^ 32) → l.behinds.items ++ counts_from l.rows l.firsts l.body l.at (l.end - l.at) ≡ l.fn.behinds.items ++ counts_from l.rows l.firsts l.body l.body (l.end - l.body)
