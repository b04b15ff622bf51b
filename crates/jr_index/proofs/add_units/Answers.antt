use Rattle.std.proofs.Common.{ap, map}
use Rattle.jr_index.specs.Events as e
use Rattle.jr_index.proofs.Adding.{goes_on, rest_is}
use Rattle.jr_index.proofs.add_units.Goals as goal

pub loop-placed-preserved : goal.loop-placed-preserved
loop-placed-preserved c = goes_on c.loop-placed.invariant (ap (λ xs. e.units_events (map (λ u. u.unit) xs)) (rest_is c.args.units.now c.loop-placed.placed-index c.placed-item.result c.loop-placed-test.true c.placed-item.is)) c.add_unit.ensures
