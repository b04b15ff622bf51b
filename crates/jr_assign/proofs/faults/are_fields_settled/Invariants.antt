use Rattle.std.proofs.Common.{◌≡◌}
use Rattle.jr_plain.specs.Search.{all_below}
use Rattle.jr_assign.specs.Judged.{is_settled, verdict}
use Rattle.jr_assign.specs.Made.{blank_field}
use Rattle.jr_assign.proofs.faults.are_fields_settled.Given as goal

abbrev pub invariant-loop-n : goal.invariant-loop-n
invariant-loop-n l = l.are ≡ all_below l.n (λ v. is_settled (blank_field l.rows v) (verdict l.verdicts v))
