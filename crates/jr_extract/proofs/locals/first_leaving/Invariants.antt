use Rattle.std.proofs.Common.{◌≡◌, drop, None}
use Rattle.jr_extract.specs.Handing.{leaving_by, lowest}
use Rattle.jr_extract.proofs.locals.first_leaving.Given as goal

abbrev pub invariant-loop-pair : goal.invariant-loop-pair
invariant-loop-pair l = lowest (leaving_by l.points l.run) l.first (drop l.pair-index l.pairs) ≡ lowest (leaving_by l.points l.run) None l.pairs
