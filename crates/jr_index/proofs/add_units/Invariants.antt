use Rattle.std.proofs.Common.{map, drop}
use Rattle.jr_index.specs.Events as e
use Rattle.jr_index.specs.Writing.{written, Leads}
use Rattle.jr_index.proofs.add_units.Given as goal

abbrev pub invariant-loop-placed : goal.invariant-loop-placed
invariant-loop-placed l = Leads (written l.initial.out) (written l.out) (e.units_events (map (λ u. u.unit) (drop l.placed-index l.units))) (e.units_events (map (λ u. u.unit) l.units))
