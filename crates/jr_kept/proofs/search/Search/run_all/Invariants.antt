use Rattle.std.proofs.Common.{ℕ, ◌<◌, length, take}
use Rattle.std.specs.List.{Contains}
use Rattle.jr_flow_defs.specs.Graphs.{StepList}
use Rattle.jr_kept.specs.Searched.{IsSide, IsReady, FindsFromAll}
use Rattle.jr_kept.proofs.search.Search.run_all.Given as goal

abbrev pub invariant-loop-point : goal.invariant-loop-point
invariant-loop-point l = (count : ℕ) (steps : StepList) → IsSide l.side count steps → IsReady l.fn.self l.side count → ((k : ℕ) → Contains l.points k → k < length l.side.points.now)
    → IsReady l.self l.side count × FindsFromAll l.side steps (take l.point-index l.points) l.fn.self.targets.all.items l.self.targets.all.items
