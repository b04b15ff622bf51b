use Rattle.std.proofs.Common.{◌≡◌, ◌++◌, drop, flat_map}
use Rattle.jr_defs.specs.Referents.{entries}
use Rattle.jr_flow_faults.specs.ExceptionTests.{named_class}
use Rattle.jr_flow_faults.proofs.thrown.named_classes.Given as goal

abbrev pub invariant-loop-name : goal.invariant-loop-name
invariant-loop-name l = l.all.items ++ flat_map (named_class l.under.rows.now (entries l.under.table.now)) (drop l.name-index l.names) ≡ flat_map (named_class l.under.rows.now (entries l.under.table.now)) l.names
