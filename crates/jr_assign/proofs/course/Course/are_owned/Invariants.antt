use Rattle.std.proofs.Common.{◌≡◌, ◌+◌}
use Rattle.jr_plain.specs.Search.{all_below}
use Rattle.jr_assign.specs.Judged.{is_owned_at}
use Rattle.jr_assign.proofs.course.Course.are_owned.Given as goal

abbrev pub invariant-loop-inside : goal.invariant-loop-inside
invariant-loop-inside l = l.are ≡ all_below l.inside (λ i. is_owned_at l.self l.owners (l.self.root + i))
