use Rattle.std.proofs.Common.{ℕ, List}
use Rattle.jr_flow.specs.declared.point.Step.{Step}
use Rattle.jr_flow.specs.Woven.{IsWovenOf, IsBound, IsFinder, Finds, of_first}
use Rattle.jr_flow.proofs.webs.Finder.find_all.Given as goal

abbrev pub invariant-loop-key : goal.invariant-loop-key
invariant-loop-key l = (bound : ℕ) (steps : List Step) → IsWovenOf l.points steps l.locals l.web → IsBound l.points steps bound → IsFinder bound l.fn.self → Finds bound l.points steps (of_first l.locals l.key) l.fn.self l.self
