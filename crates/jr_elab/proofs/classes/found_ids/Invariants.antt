use Rattle.std.proofs.Common.{◌≡◌, ◌++◌, drop, map}
use Rattle.jr_codes.specs.Reads.{facts}
use Rattle.jr_elab.specs.Cores.{found_ids}
use Rattle.jr_elab.proofs.classes.found_ids.Given as goal

abbrev pub invariant-loop-edge : goal.invariant-loop-edge
invariant-loop-edge l = l.all ++ map (found_ids (facts l.source)) (drop l.edge-index l.edges) ≡ map (found_ids (facts l.source)) l.edges
