use Rattle.jr_plain.specs.Search.{all_such}
use Rattle.jr_defs.specs.Referents.{entries}
use Rattle.jr_rule.specs.declared.Rule.TheVariants as rule
use Rattle.jr_rule.specs.Faults.{AreFaultsOf}
use Rattle.jr_supers.specs.Supers.{AreSupersOf}
use Rattle.jr_supers.specs.Tabled.{IsSized}
use Rattle.jr_faults.specs.Added.{is_rule, AreOnly}
use Rattle.jr_flow_faults.specs.ExceptionTests.{is_covered, AreCatchesTo}
use Rattle.jr_flow_faults.proofs.catches.Catches.of.Given as goal

abbrev pub invariant-loop-at : goal.invariant-loop-at
invariant-loop-at l = AreOnly (is_rule rule.CoveredCatch) l.fn.out.items l.out.items
    × (IsSized l.under.rows.now → AreCatchesTo l.under.rows.now (entries l.under.table.now) l.at l.table)
    × (IsSized l.under.rows.now → AreSupersOf l.under.rows.now (entries l.under.table.now) l.supers
    → AreFaultsOf rule.CoveredCatch (all_such l.at (is_covered l.under.rows.now (entries l.under.table.now))) l.fn.out.items l.out.items)
