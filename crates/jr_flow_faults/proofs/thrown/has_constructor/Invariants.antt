use Rattle.std.proofs.Common.{◌≡◌, drop}
use Rattle.std.specs.List.{list_any}
use Rattle.jr_flow_faults.specs.ExceptionTests.{is_constructor}
use Rattle.jr_flow_faults.proofs.thrown.has_constructor.Given as goal

abbrev pub invariant-loop-child : goal.invariant-loop-child
invariant-loop-child l = list_any (is_constructor l.rows) (drop l.child-index l.all) ≡ list_any (is_constructor l.rows) l.all
