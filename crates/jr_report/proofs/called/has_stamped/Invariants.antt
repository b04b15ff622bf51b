use Rattle.std.proofs.Common.{drop}
use Rattle.jr_report.specs.Listed.{rows_in}
use Rattle.jr_report.proofs.Gathering.{HasLeft}
use Rattle.jr_report.proofs.called.has_stamped.Given as goal

abbrev pub invariant-loop-method : goal.invariant-loop-method
invariant-loop-method l = HasLeft (rows_in l.world) l.called l.methods (drop l.method-index l.methods)
