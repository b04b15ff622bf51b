use Rattle.std.proofs.Common.{◌≡◌, ◌++◌, drop}
use Rattle.jr_kept.specs.Named.{origin_in}
use Rattle.jr_kept.specs.Carried.{pairs_by}
use Rattle.jr_kept.proofs.carried.copy_pairs.Given as goal

abbrev pub invariant-loop-local : goal.invariant-loop-local
invariant-loop-local l = l.pairs.items ++ pairs_by (origin_in l.origin) (drop l.local-index l.locals) ≡ pairs_by (origin_in l.origin) l.locals
