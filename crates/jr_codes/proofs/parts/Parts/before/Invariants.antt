use Rattle.std.proofs.Common.{length}
use Rattle.jr_codes.specs.Waiting.{waiting}
use Rattle.jr_codes.proofs.Fronts.{TakenSo}
use Rattle.jr_codes.proofs.parts.Parts.before.Given as goal

abbrev pub invariant-loop-part : goal.invariant-loop-part
invariant-loop-part g l = TakenSo l.end (waiting l.fn.self) (waiting l.self) l.all

abbrev pub decreases-loop-part : goal.decreases-loop-part
decreases-loop-part g l = length (waiting l.self)
