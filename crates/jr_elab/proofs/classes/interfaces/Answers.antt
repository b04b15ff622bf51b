use Rattle.std.proofs.Common.{ap, arith, ◌++◌, flat_map}
use Rattle.std.proofs.lemmas.List.{drop_more, drop_all}
use Rattle.jr_codes.specs.Reads.{facts}
use Rattle.jr_elab.specs.Cores.{face_if}
use Rattle.jr_elab.proofs.Each.{flat_more, flat_end}
use Rattle.jr_elab.proofs.classes.interfaces.Goals as goal

pub loop-over-init : goal.loop-over-init
loop-over-init c = ap (λ xs. xs ++ flat_map (face_if (facts c.args.source.now)) c.args.supers.now) c.new-all.ensures

pub loop-over-preserved : goal.loop-over-preserved
loop-over-preserved c = flat_more (face_if (facts c.args.source.now)) _ _ _ _ _ _ (drop_more c.args.supers.now c.loop-over.over-index _ (omega arith)) c.in_ok-add_face.ensures c.loop-over.invariant

pub returns : goal.returns
returns c = flat_end (face_if (facts c.args.source.now)) _ _ _ (drop_all c.loop-over.over-index c.args.supers.now (omega arith)) c.loop-over.invariant
