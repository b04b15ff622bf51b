use Rattle.std.proofs.Common.{◌≡◌, ◌++◌, drop, flat_map}
use Rattle.jr_codes.specs.Reads.{facts}
use Rattle.jr_elab.specs.Cores.{face_if}
use Rattle.jr_elab.proofs.classes.interfaces.Given as goal

abbrev pub invariant-loop-over : goal.invariant-loop-over
invariant-loop-over l = l.all ++ flat_map (face_if (facts l.source)) (drop l.over-index l.supers) ≡ flat_map (face_if (facts l.source)) l.supers
