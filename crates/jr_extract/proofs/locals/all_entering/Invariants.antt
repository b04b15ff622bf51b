use Rattle.std.proofs.Common.{◌≡◌, ◌++◌, drop, flat_map}
use Rattle.jr_extract.specs.Handing.{entering_by, given, listed_by}
use Rattle.jr_extract.proofs.locals.all_entering.Given as goal

abbrev pub invariant-loop-pair : goal.invariant-loop-pair
invariant-loop-pair l = l.all.items ++ flat_map (listed_by (entering_by l.points l.run)) (drop l.pair-index l.pairs) ≡ given (entering_by l.points l.run) l.pairs
