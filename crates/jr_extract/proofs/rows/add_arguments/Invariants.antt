use Rattle.std.proofs.Common.{◌≡◌, drop}
use Rattle.jr_extract.specs.Writing.{with_arguments}
use Rattle.jr_extract.proofs.rows.add_arguments.Given as goal

abbrev pub invariant-loop-variable : goal.invariant-loop-variable
invariant-loop-variable l = with_arguments (drop l.variable-index l.variables) l.draft ≡ with_arguments l.variables l.fn.draft
