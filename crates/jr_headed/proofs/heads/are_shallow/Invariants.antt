use Rattle.std.proofs.Common.{◌≡◌}
use Rattle.jr_plain.specs.Search.{all_below}
use Rattle.jr_headed.specs.Heads.{is_sized_at}
use Rattle.jr_headed.proofs.heads.are_shallow.Given as goal

abbrev pub invariant-loop-at : goal.invariant-loop-at
invariant-loop-at l = l.are ≡ all_below l.at (is_sized_at l.rows)
