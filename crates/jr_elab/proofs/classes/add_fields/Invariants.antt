use Rattle.std.proofs.Common.{◌≡◌, ◌++◌, drop, flat_map}
use Rattle.jr_codes.specs.Reads.{facts}
use Rattle.jr_elab.specs.Cores.{field_if}
use Rattle.jr_elab.proofs.classes.add_fields.Given as goal

abbrev pub invariant-loop-row : goal.invariant-loop-row
invariant-loop-row l = l.all ++ flat_map (field_if (facts l.source)) (drop l.row-index l.rows) ≡ l.fn.all ++ flat_map (field_if (facts l.source)) l.rows
