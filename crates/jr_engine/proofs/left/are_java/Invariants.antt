use Rattle.std.proofs.Common.{length, map, IsTrue}
use Rattle.std.specs.List.{AllByRecursion}
use Rattle.jr_base.specs.Files.{plain}
use Rattle.jr_base.specs.Paths.{is_java}
use Rattle.jr_engine.proofs.left.are_java.Given as goal

abbrev pub invariant-loop-rest : goal.invariant-loop-rest
invariant-loop-rest l = AllByRecursion (λ path. IsTrue (is_java path)) (map (λ e. e.0) (plain l.rest)) → AllByRecursion (λ path. IsTrue (is_java path)) (map (λ e. e.0) (plain l.files))

abbrev pub decreases-loop-rest : goal.decreases-loop-rest
decreases-loop-rest l = length l.rest
