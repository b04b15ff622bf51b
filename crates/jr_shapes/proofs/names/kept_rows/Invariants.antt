use Rattle.std.proofs.Common.{◌≡◌, ◌++◌, length}
use Rattle.jr_defs.specs.Referents.{entries}
use Rattle.jr_shapes.specs.Parts.{type_of}
use Rattle.jr_shapes.specs.Names.{kept}
use Rattle.jr_shapes.proofs.names.kept_rows.Given as goal

abbrev pub decreases-loop-at : goal.decreases-loop-at
decreases-loop-at l = length l.rest

abbrev pub invariant-loop-at : goal.invariant-loop-at
invariant-loop-at l = l.all.items ++ kept l.rows (entries l.table) l.behind l.rest ≡ kept l.rows (entries l.table) (type_of l.rows l.fn.found) l.parts
