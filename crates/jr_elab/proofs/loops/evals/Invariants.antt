use Rattle.std.proofs.Common.{length}
use Rattle.jr_codes.specs.Waiting.{waiting}
use Rattle.jr_elab.proofs.Looped.{EvalsSo}
use Rattle.jr_elab.proofs.loops.evals.Given as goal

abbrev pub invariant-loop-row : goal.invariant-loop-row
invariant-loop-row l = EvalsSo l.end (waiting l.fn.codes) (waiting l.codes) l.all

abbrev pub decreases-loop-row : goal.decreases-loop-row
decreases-loop-row l = length (waiting l.codes)
