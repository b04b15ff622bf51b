use Rattle.std.proofs.Common.{◌≡◌, ◌++◌, codes, drop}
use Rattle.jr_extract.specs.Writing.{separated, variable_text}
use Rattle.jr_extract.proofs.texts.put_parameters.Given as goal

abbrev pub invariant-loop-variable : goal.invariant-loop-variable
invariant-loop-variable l = l.text.items ++ separated l.lead (variable_text l.rows) (drop l.variable-index l.variables) ≡ l.fn.text.items ++ separated (codes "") (variable_text l.rows) l.variables
