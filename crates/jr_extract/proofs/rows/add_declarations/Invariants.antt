use Rattle.std.proofs.Common.{◌≡◌, drop}
use Rattle.jr_extract.specs.Writing.{with_declarations}
use Rattle.jr_extract.proofs.rows.add_declarations.Given as goal

abbrev pub invariant-loop-variable : goal.invariant-loop-variable
invariant-loop-variable l = with_declarations (drop l.variable-index l.variables) l.draft ≡ with_declarations l.variables l.fn.draft
