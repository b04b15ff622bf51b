use Rattle.std.proofs.Common.{arith}
use Rattle.std.proofs.lemmas.List.{drop_more, drop_all}
use Rattle.jr_plain.specs.Imports.{can_import}
use Rattle.jr_lookup.proofs.Sighting.{filter_on, filter_out}
use Rattle.jr_lookup.proofs.simple.Sight.add_importable.Goals as goal

pub loop-at-preserved : goal.loop-at-preserved
loop-at-preserved c = λ placed. filter_on (can_import c.args.self.now.world.under.rows.now c.args.unit) _ _ _ _ _ _ _ (drop_more c.args.types.now c.loop-at.at-index 0 (omega arith)) (c.can_import-is_such.ensures placed)
    c.in_ok-push_if.ensures (c.loop-at.invariant placed)

pub returns : goal.returns
returns c = λ placed. filter_out (can_import c.args.self.now.world.under.rows.now c.args.unit) _ _ _ (drop_all c.loop-at.at-index c.args.types.now (omega arith)) (c.loop-at.invariant placed)
