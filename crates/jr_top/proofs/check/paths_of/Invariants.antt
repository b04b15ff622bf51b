use Rattle.std.proofs.Common.{◌≡◌, ◌++◌, length, map}
use Rattle.jr_base.specs.Files.{plain}
use Rattle.jr_top.proofs.check.paths_of.Given as goal

abbrev pub invariant-loop-rest : goal.invariant-loop-rest
invariant-loop-rest l = l.paths.items ++ map (λ e. e.0) (plain l.rest) ≡ map (λ e. e.0) (plain l.found)

abbrev pub decreases-loop-rest : goal.decreases-loop-rest
decreases-loop-rest l = length l.rest
