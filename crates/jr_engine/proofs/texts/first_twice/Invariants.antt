use Rattle.std.proofs.Common.{◌≡◌, length}
use Rattle.jr_base.specs.Files.{plain}
use Rattle.jr_engine.specs.Texts.{first_twice, next_twice}
use Rattle.jr_engine.proofs.texts.first_twice.Given as goal

abbrev pub invariant-loop-next : goal.invariant-loop-next
invariant-loop-next l = first_twice (plain l.texts) ≡ next_twice l.last l.number (plain l.rest)

abbrev pub decreases-loop-next : goal.decreases-loop-next
decreases-loop-next l = length l.rest
