use Rattle.std.proofs.Common.{◌≡◌, drop}
use Rattle.std.specs.List.{list_all}
use Rattle.jr_defs.specs.Referents.{entries}
use Rattle.jr_supers.specs.Supers.{AreSupersOf}
use Rattle.jr_flow_faults.specs.ExceptionTests.{lets_by}
use Rattle.jr_flow_faults.proofs.thrown.each_lets_by.Given as goal

abbrev pub invariant-loop-child : goal.invariant-loop-child
invariant-loop-child l = AreSupersOf l.under.rows.now (entries l.under.table.now) l.supers
    → list_all (lets_by l.under.rows.now (entries l.under.table.now) l.class) (drop l.child-index l.all) ≡ list_all (lets_by l.under.rows.now (entries l.under.table.now) l.class) l.all
