use Rattle.std.proofs.Common.{ap, arith, ◌++◌, map}
use Rattle.std.proofs.lemmas.List.{drop_more, drop_all}
use Rattle.jr_codes.specs.Reads.{facts}
use Rattle.jr_elab.specs.Cores.{found_ids}
use Rattle.jr_elab.proofs.Each.{map_more, map_end}
use Rattle.jr_elab.proofs.classes.found_ids.Goals as goal

pub loop-edge-init : goal.loop-edge-init
loop-edge-init c = ap (λ xs. xs ++ map (found_ids (facts c.args.source.now)) c.args.edges.now) c.new-all.ensures

pub loop-edge-preserved : goal.loop-edge-preserved
loop-edge-preserved c = map_more (found_ids (facts c.args.source.now)) _ _ _ _ _ _ (drop_more c.args.edges.now c.loop-edge.edge-index _ (omega arith)) c.in_ok-add_found.ensures c.loop-edge.invariant

pub returns : goal.returns
returns c = map_end (found_ids (facts c.args.source.now)) _ _ _ (drop_all c.loop-edge.edge-index c.args.edges.now (omega arith)) c.loop-edge.invariant
