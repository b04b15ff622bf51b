use Rattle.std.proofs.Common.{◌≡◌}
use Rattle.test_requests.proofs.edits.edits_of_abc.Given as goal

abbrev pub invariant-loop-start : goal.invariant-loop-start
invariant-loop-start g l = l.edits.text_len ≡ 3
