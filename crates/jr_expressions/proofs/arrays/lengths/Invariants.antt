use Rattle.std.proofs.Common.{length}
use Rattle.jr_codes.specs.Waiting.{waiting}
use Rattle.jr_codes.specs.Reads.{facts}
use Rattle.jr_expressions.proofs.Passed.{LengthsSo}
use Rattle.jr_expressions.proofs.arrays.lengths.Given as goal

abbrev pub invariant-loop-row : goal.invariant-loop-row
invariant-loop-row l = LengthsSo (facts l.source) l.end (waiting l.fn.codes) (waiting l.codes) l.all

abbrev pub decreases-loop-row : goal.decreases-loop-row
decreases-loop-row l = length (waiting l.codes)
