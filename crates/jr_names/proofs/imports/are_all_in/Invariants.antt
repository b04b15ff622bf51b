use Rattle.std.proofs.Common.{◌≡◌, drop}
use Rattle.jr_names.specs.Importing.{are_all_in}
use Rattle.jr_names.proofs.imports.are_all_in.Given as goal

abbrev pub invariant-loop-at : goal.invariant-loop-at
invariant-loop-at l = are_all_in (drop l.at-index l.some) l.others ≡ are_all_in l.some l.others
