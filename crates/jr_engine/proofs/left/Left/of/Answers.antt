use Rattle.std.proofs.Common.{IsTrue, map, refl, subst}
use Rattle.std.specs.List.{AllByRecursion}
use Rattle.jr_base.specs.Paths.{is_java}
use Rattle.jr_engine.proofs.Stepping.{held_so}
use Rattle.jr_engine.proofs.left.Left.of.Goals as goal

pub returns-then-are_java-clause-held : goal.returns-then-are_java-clause-held
returns-then-are_java-clause-held c = held_so _ c.requires (subst (λ all. AllByRecursion (λ path. IsTrue (is_java path)) (map (λ e. e.0) all)) c.entries.ensures (c.if-are_java.ensures refl))
