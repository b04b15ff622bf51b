use Rattle.jr_type_faults.specs.Faults.{CanTell, type_rules, AreOnlyOf}
use Rattle.jr_type_faults.proofs.Told.{AreFaultsTo}
use Rattle.jr_type_faults.proofs.faults.push_rows.Given as goal

abbrev pub invariant-loop-at : goal.invariant-loop-at
invariant-loop-at l = (CanTell l.facts → AreFaultsTo l.facts.view l.at l.fn.out.items l.out.items) × AreOnlyOf type_rules l.fn.out.items l.out.items
