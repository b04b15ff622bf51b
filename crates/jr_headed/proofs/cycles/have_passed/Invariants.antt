use Rattle.std.proofs.Common.{◌≡◌}
use Rattle.jr_plain.specs.Search.{all_below}
use Rattle.jr_places.specs.Stamps.{is_stamped}
use Rattle.jr_headed.specs.Cycles.{is_passed}
use Rattle.jr_headed.proofs.cycles.have_passed.Given as goal

abbrev pub invariant-loop-at : goal.invariant-loop-at
invariant-loop-at l = l.have ≡ all_below l.at (is_passed l.rows (is_stamped l.passed))
