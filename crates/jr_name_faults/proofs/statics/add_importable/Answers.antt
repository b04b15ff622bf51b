use Rattle.std.proofs.Common.{arith}
use Rattle.std.proofs.lemmas.List.{drop_more, drop_all}
use Rattle.jr_lookup.specs.Sights.{is_static_importable}
use Rattle.jr_lookup.proofs.Sighting.{filter_on, filter_out}
use Rattle.jr_name_faults.specs.Imports.{rows_of}
use Rattle.jr_name_faults.proofs.statics.add_importable.Goals as goal

pub loop-at-preserved : goal.loop-at-preserved
loop-at-preserved c = λ placed. filter_on (is_static_importable (rows_of c.args.world.now) c.args.unit) _ _ _ _ _ _ _ (drop_more c.args.members.now c.loop-at.at-index 0 (omega arith)) (c.is_importable-is_such.ensures placed)
    c.in_ok-push_if.ensures (c.loop-at.invariant placed)

pub returns : goal.returns
returns c = λ placed. filter_out (is_static_importable (rows_of c.args.world.now) c.args.unit) _ _ _ (drop_all c.loop-at.at-index c.args.members.now (omega arith)) (c.loop-at.invariant placed)
