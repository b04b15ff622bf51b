use Rattle.std.proofs.Common.{◌≡◌, drop}
use Rattle.jr_assign.specs.Assigned as tell
use Rattle.jr_assign.specs.Words.{sets_by, seen_by}
use Rattle.jr_assign.proofs.course.Course.arrives.Given as goal

abbrev pub invariant-loop-over : goal.invariant-loop-over
invariant-loop-over l = tell.passed (sets_by l.self) l.self.rows.now l.self.facts.now l.self.guarded.now (seen_by l.self) l.at (drop l.over-index l.self.guarded.now) l.set ≡ tell.arrives (sets_by l.self) l.self.rows.now l.self.facts.now l.self.guarded.now (seen_by l.self) l.at
