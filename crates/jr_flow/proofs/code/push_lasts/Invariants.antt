use Rattle.std.proofs.Common.{◌≡◌, ◌++◌, ◌-◌}
use Rattle.jr_flow.specs.Coded.{lasts_from}
use Rattle.jr_flow.proofs.code.push_lasts.Given as goal

abbrev pub invariant-loop-at : goal.invariant-loop-at
invariant-loop-at l = l.lasts.items ++ lasts_from l.rows l.at (l.end - l.at) ≡ l.fn.lasts.items ++ lasts_from l.rows l.from (l.end - l.from)
