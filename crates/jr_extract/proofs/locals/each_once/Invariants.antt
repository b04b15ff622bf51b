use Rattle.std.proofs.Common.{◌≡◌, ◌++◌, drop, None}
use Rattle.jr_supers.specs.Supers.{once}
use Rattle.jr_extract.proofs.locals.each_once.Given as goal

abbrev pub invariant-loop-number : goal.invariant-loop-number
invariant-loop-number l = l.all.items ++ once l.last (drop l.number-index l.numbers) ≡ once None l.numbers
