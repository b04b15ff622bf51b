use Rattle.std.proofs.Common.{drop}
use Rattle.jr_dispatch.specs.Methods.{IsWholeWorld}
use Rattle.jr_report.specs.Listed.{rows_in, table_in}
use Rattle.jr_report.proofs.Finding.{IsSearched}
use Rattle.jr_report.proofs.called.is_found_in.Given as goal

abbrev pub invariant-loop-class : goal.invariant-loop-class
invariant-loop-class l = IsWholeWorld (table_in l.world) l.world → IsSearched (rows_in l.world) (table_in l.world) l.other l.method l.classes (drop l.class-index l.classes)
