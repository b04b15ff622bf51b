use Rattle.std.proofs.Common.{length}
use Rattle.jr_codes.specs.Waiting.{waiting}
use Rattle.jr_expressions.proofs.Passed.{ArgumentsSo}
use Rattle.jr_expressions.proofs.calls.arguments.Given as goal

abbrev pub invariant-loop-row : goal.invariant-loop-row
invariant-loop-row l = ArgumentsSo l.source l.method l.end (waiting l.fn.codes) (waiting l.codes) l.all

abbrev pub decreases-loop-row : goal.decreases-loop-row
decreases-loop-row l = length (waiting l.codes)
