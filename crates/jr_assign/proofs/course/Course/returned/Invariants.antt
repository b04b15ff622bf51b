use Rattle.std.proofs.Common.{◌≡◌, ◌+◌}
use Rattle.jr_assign.specs.Changes.{fact}
use Rattle.jr_assign.specs.Sets.{both_of}
use Rattle.jr_assign.specs.Assigned.{arrives}
use Rattle.jr_assign.specs.Blank.{is_return}
use Rattle.jr_assign.specs.Words.{sets_by, seen_by}
use Rattle.jr_assign.proofs.course.Course.returned.Given as goal

abbrev pub invariant-loop-inside : goal.invariant-loop-inside
invariant-loop-inside l = l.set ≡ both_of (sets_by l.self) (λ i. is_return (fact l.self.facts.now (l.self.root + i)).way) (λ i. arrives (sets_by l.self) l.self.rows.now l.self.facts.now l.self.guarded.now (seen_by l.self) (l.self.root + i)) l.inside
