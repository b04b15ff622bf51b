use Rattle.std.proofs.Common.{◌≡◌, ◌++◌, drop}
use Rattle.jr_bind.proofs.meeting.add_all.Given as goal

abbrev pub invariant-loop-row : goal.invariant-loop-row
invariant-loop-row l = l.all.items ++ drop l.row-index l.more ≡ l.fn.all.items ++ l.more
