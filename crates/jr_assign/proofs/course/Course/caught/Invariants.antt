use Rattle.std.proofs.Common.{◌≡◌, ◌+◌}
use Rattle.jr_assign.specs.Sets.{both_of}
use Rattle.jr_assign.specs.Assigned.{is_catch_of}
use Rattle.jr_assign.specs.Words.{sets_by, seen_by}
use Rattle.jr_assign.proofs.course.Course.caught.Given as goal

abbrev pub invariant-loop-inside : goal.invariant-loop-inside
invariant-loop-inside l = l.set ≡ both_of (sets_by l.self) (λ i. is_catch_of l.self.rows.now l.at (l.at + 1 + i)) (λ i. (seen_by l.self (l.at + 1 + i)).done) l.inside
