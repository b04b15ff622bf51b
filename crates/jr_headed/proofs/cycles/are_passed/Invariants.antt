use Rattle.std.proofs.Common.{◌≡◌, ◌&&◌, drop}
use Rattle.jr_places.specs.Stamps.{is_stamped}
use Rattle.jr_headed.specs.Cycles.{are_passed}
use Rattle.jr_headed.proofs.cycles.are_passed.Given as goal

abbrev pub invariant-loop-at : goal.invariant-loop-at
invariant-loop-at l = (l.are && are_passed l.rows (is_stamped l.passed) (drop l.at-index l.all)) ≡ are_passed l.rows (is_stamped l.passed) l.all
