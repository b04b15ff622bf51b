use Rattle.std.proofs.Common.{◌≡◌, ◌++◌, drop, flat_map}
use Rattle.jr_extract.specs.Handing.{other_of}
use Rattle.jr_extract.proofs.locals.without.Given as goal

abbrev pub invariant-loop-row : goal.invariant-loop-row
invariant-loop-row l = l.all.items ++ flat_map (other_of l.others) (drop l.row-index l.locals) ≡ flat_map (other_of l.others) l.locals
