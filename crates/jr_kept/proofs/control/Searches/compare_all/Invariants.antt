use Rattle.jr_flow_defs.specs.Graphs.{StepList}
use Rattle.jr_kept.specs.Ordered.{Tells}
use Rattle.jr_kept.specs.Searched.{IsSide}
use Rattle.jr_kept.specs.Compared.{AreReady, SameNames}
use Rattle.jr_kept.proofs.control.Searches.compare_all.Given as goal

abbrev pub invariant-loop-name : goal.invariant-loop-name
invariant-loop-name l = (s t : StepList) → IsSide l.old l.count s → IsSide l.new l.count t → AreReady l.fn.self l.old l.new l.count → AreReady l.self l.old l.new l.count × Tells l.fn.lost l.lost (SameNames l.old s l.new t l.name)
