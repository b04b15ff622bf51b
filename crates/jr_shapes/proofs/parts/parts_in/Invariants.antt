use Rattle.jr_defs.specs.Referents.{entries}
use Rattle.jr_shapes.proofs.Qualifiers.{PartsTo}
use Rattle.jr_shapes.proofs.parts.parts_in.Given as goal

abbrev pub invariant-loop-at : goal.invariant-loop-at
invariant-loop-at l = PartsTo l.rows (entries l.table) l.first l.end l.at l.all.items
