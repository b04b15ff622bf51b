use Rattle.std.proofs.Common.{length, IsTrue}
use Rattle.jr_base.specs.Files.{plain}
use Rattle.jr_engine.proofs.Rising.{rises, rises_from}
use Rattle.jr_engine.proofs.filing.rise.Given as goal

abbrev pub invariant-loop-next : goal.invariant-loop-next
invariant-loop-next l = IsTrue (rises_from l.last (plain l.rest)) → IsTrue (rises (plain l.texts))

abbrev pub decreases-loop-next : goal.decreases-loop-next
decreases-loop-next l = length l.rest
