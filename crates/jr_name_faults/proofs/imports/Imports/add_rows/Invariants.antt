use Rattle.jr_tree.specs.Rows.{Rows}
use Rattle.jr_defs.specs.Referents.{Table}
use Rattle.jr_name_faults.specs.Imports.{AreImportsTo}
use Rattle.jr_name_faults.proofs.imports.Imports.add_rows.Given as goal

abbrev pub invariant-loop-at : goal.invariant-loop-at
invariant-loop-at l = (p : Rows) (t : Table) → AreImportsTo p t 0 0 l.fn.self → AreImportsTo p t l.at 0 l.self
