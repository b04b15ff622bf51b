use Rattle.jr_codes.specs.Reads.{facts}
use Rattle.jr_expressions.specs.Names.{InLists}
use Rattle.jr_expressions.proofs.arrays.round_lists.Given as goal

abbrev pub invariant-loop-depth : goal.invariant-loop-depth
invariant-loop-depth l = InLists (facts l.source) l.at l.depth l.over
