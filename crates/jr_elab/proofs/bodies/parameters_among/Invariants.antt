use Rattle.std.proofs.Common.{◌≡◌, ◌++◌, drop, flat_map}
use Rattle.jr_codes.specs.Reads.{facts}
use Rattle.jr_elab.specs.Stacked.{parameter_if}
use Rattle.jr_elab.proofs.bodies.parameters_among.Given as goal

abbrev pub invariant-loop-row : goal.invariant-loop-row
invariant-loop-row l = l.all ++ flat_map (parameter_if (facts l.source)) (drop l.row-index l.rows) ≡ flat_map (parameter_if (facts l.source)) l.rows
