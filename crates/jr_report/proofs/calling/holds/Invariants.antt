use Rattle.std.proofs.Common.{◌+◌, ◌^◌, ◌<◌}
use Rattle.jr_report.proofs.Seeking.{HasNoneYet}
use Rattle.jr_report.proofs.calling.holds.Given as goal

abbrev pub invariant-loop-at : goal.invariant-loop-at
invariant-loop-at l = l.end + 1 < 2 ^ 32 → HasNoneYet l.view l.sought.called.now l.sought.is_to_string l.first l.at
