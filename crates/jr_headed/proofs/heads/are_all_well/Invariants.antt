use Rattle.std.proofs.Common.{◌≡◌}
use Rattle.jr_plain.specs.Search.{all_below}
use Rattle.jr_headed.specs.Heads.{is_well_at}
use Rattle.jr_headed.proofs.heads.are_all_well.Given as goal

abbrev pub invariant-loop-at : goal.invariant-loop-at
invariant-loop-at l = l.are ≡ all_below l.at (is_well_at l.rows l.object)
