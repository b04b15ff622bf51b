use Rattle.std.proofs.Common.{◌≡◌, ◌++◌, map, drop}
use Rattle.jr_package.specs.Repackaging.{last_of}
use Rattle.jr_package.proofs.units.push_names.Given as goal

abbrev pub invariant-loop-at : goal.invariant-loop-at
invariant-loop-at l = l.all.items ++ map last_of (drop l.at-index l.imports) ≡ l.fn.all.items ++ map last_of l.imports
