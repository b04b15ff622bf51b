use Rattle.std.proofs.Common.{◌≡◌, length}
use Rattle.jr_base.specs.declared.limits.TheConstants.Limits as limits
use Rattle.jr_read.specs.Reading.{passes}
use Rattle.jr_read.proofs.program.has_too_many.Given as goal

abbrev pub invariant-loop-rest : goal.invariant-loop-rest
invariant-loop-rest l = passes l.left l.rest ≡ passes limits.TOKENS l.lexed

abbrev pub decreases-loop-rest : goal.decreases-loop-rest
decreases-loop-rest l = length l.rest
