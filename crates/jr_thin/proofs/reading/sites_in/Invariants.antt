use Rattle.std.proofs.Common.{◌≡◌, drop}
use Rattle.jr_thin.specs.Reading.{sites_from, sites_in, with_front}
use Rattle.jr_thin.specs.Trees.{kinds_of}
use Rattle.jr_thin.proofs.reading.sites_in.Given as goal

abbrev pub invariant-loop-index : goal.invariant-loop-index
invariant-loop-index l = with_front l.sites.items (sites_from l.phase l.method l.node (kinds_of (drop l.index l.tokens))) ≡ sites_in (kinds_of l.tokens)
