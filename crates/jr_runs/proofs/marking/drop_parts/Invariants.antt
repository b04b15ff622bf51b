use Rattle.std.proofs.Common.{◌≡◌, drop}
use Rattle.jr_runs.specs.Marks.{with_dropped}
use Rattle.jr_runs.proofs.marking.drop_parts.Given as goal

abbrev pub invariant-loop-at : goal.invariant-loop-at
invariant-loop-at l = with_dropped (drop l.at-index l.parts) l.all ≡ with_dropped l.parts l.fn.all
