use Rattle.std.proofs.Common.{◌≤◌, take}
use Rattle.jr_kept.specs.Named.{AreNames, new_naming}
use Rattle.jr_kept.proofs.names.Names.of_new.Given as goal

abbrev pub invariant-loop-point : goal.invariant-loop-point
invariant-loop-point l = 2 ≤ l.count → AreNames l.self.body l.count (new_naming l.self l.origin) l.graph.body (take l.point-index l.point-items) l.all.items
