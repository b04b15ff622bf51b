use Rattle.std.proofs.Common.{ℕ, List}
use Rattle.jr_flow_defs.specs.Graphs.{StepList}
use Rattle.jr_kept.specs.Searched.{IsSide, IsTargets, IsSearchOf}
use Rattle.jr_kept.proofs.search.Search.finish.Given as goal

abbrev pub invariant-loop-turn : goal.invariant-loop-turn
invariant-loop-turn l = (count : ℕ) (steps : StepList) (old : List ℕ) → IsSide l.side count steps → IsTargets l.fn.self.targets count → IsSearchOf l.fn.self l.side steps l.from old → IsTargets l.self.targets count × IsSearchOf l.self l.side steps l.from old
