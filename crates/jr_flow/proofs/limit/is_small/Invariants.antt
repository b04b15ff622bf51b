use Rattle.std.proofs.Common.{◌+◌, ◌<◌, ◌^◌, length}
use Rattle.jr_tree.specs.Tree.{IsTree}
use Rattle.jr_flow.proofs.Bounding.{IsBounded}
use Rattle.jr_flow.proofs.limit.is_small.Given as goal

abbrev pub invariant-loop-at : goal.invariant-loop-at
invariant-loop-at l = IsTree l.rows → length l.rows + 3 < 2 ^ 32 → l.body < length l.rows → IsBounded l.rows l.body l.at l.most
