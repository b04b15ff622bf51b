use Rattle.jr_tree.specs.Rows.{Rows}
use Rattle.jr_name_faults.specs.Locals.{AreLocalsTo}
use Rattle.jr_name_faults.proofs.locals.Locals.add_parameters.Given as goal

abbrev pub invariant-loop-row : goal.invariant-loop-row
invariant-loop-row l = (p : Rows) → AreLocalsTo p 0 0 0 l.fn.self → AreLocalsTo p l.row 0 0 l.self
