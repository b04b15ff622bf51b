use Rattle.std.proofs.Common.{◌≡◌}
use Rattle.jr_places.specs.Tabulated.{tabulated}
use Rattle.jr_engine.specs.Written.{is_constant_by}
use Rattle.jr_engine.proofs.locked.constant_of.Given as goal

abbrev pub invariant-loop-row : goal.invariant-loop-row
invariant-loop-row l = l.all.items ≡ tabulated (is_constant_by l.asked l.locked) l.row
