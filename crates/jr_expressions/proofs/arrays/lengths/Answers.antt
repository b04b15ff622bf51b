use Rattle.jr_expressions.proofs.Passed.{lengths_more, lengths_all}
use Rattle.jr_expressions.proofs.arrays.lengths.Goals as goal

pub loop-row-preserved : goal.loop-row-preserved
loop-row-preserved c = lengths_more _ _ _ _ _ _ _ _ c.loop-row.invariant c.in-Some.ensures c.in_ok-add_length.ensures

pub returns : goal.returns
returns c = lengths_all _ _ _ _ _ c.loop-row.invariant c.in_default.ensures
