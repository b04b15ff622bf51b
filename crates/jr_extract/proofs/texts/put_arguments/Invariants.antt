use Rattle.std.proofs.Common.{◌≡◌, ◌++◌, codes, drop}
use Rattle.jr_extract.specs.Writing.{argument_text, separated}
use Rattle.jr_extract.proofs.texts.put_arguments.Given as goal

abbrev pub invariant-loop-variable : goal.invariant-loop-variable
invariant-loop-variable l = l.text.items ++ separated l.lead (argument_text l.rows) (drop l.variable-index l.variables) ≡ l.fn.text.items ++ separated (codes "") (argument_text l.rows) l.variables
