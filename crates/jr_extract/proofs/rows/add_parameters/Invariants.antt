use Rattle.std.proofs.Common.{◌≡◌, drop}
use Rattle.jr_extract.specs.Writing.{with_parameters}
use Rattle.jr_extract.proofs.rows.add_parameters.Given as goal

abbrev pub invariant-loop-variable : goal.invariant-loop-variable
invariant-loop-variable l = with_parameters (drop l.variable-index l.variables) l.draft ≡ with_parameters l.variables l.fn.draft
