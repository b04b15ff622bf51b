use Rattle.std.proofs.Common.{subst, IsNone}
use Rattle.jr_runs.proofs.Whole.{suited_by}
use Rattle.jr_runs.proofs.compare.first_difference.Goals as goal

pub returns-in-Some-clause-some : goal.returns-in-Some-clause-some
returns-in-Some-clause-some c = λ h. subst IsNone c.in-Some.is (c.in_ok-row.ensures.some (suited_by c.in_ok-marks.ensures h))
