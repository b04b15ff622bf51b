use Rattle.jr_kept.specs.Waiting.{AreShapedTo}
use Rattle.jr_kept.proofs.parts.are_shaped.Given as goal

abbrev pub invariant-loop-at : goal.invariant-loop-at
invariant-loop-at l = AreShapedTo l.rows l.first l.at
