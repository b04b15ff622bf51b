use Rattle.std.proofs.Common.{◌≡◌, ◌++◌, drop, flat_map}
use Rattle.jr_extract.specs.Writing.{declaration_text, declarations_text}
use Rattle.jr_extract.proofs.texts.put_declarations.Given as goal

abbrev pub invariant-loop-variable : goal.invariant-loop-variable
invariant-loop-variable l = l.text.items ++ flat_map (declaration_text l.rows) (drop l.variable-index l.variables) ≡ l.fn.text.items ++ declarations_text l.rows l.variables
