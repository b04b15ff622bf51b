use Rattle.std.proofs.Common.{◌≡◌}
use Rattle.jr_meaning.specs.Whole.{nears}
use Rattle.jr_meaning.proofs.nearing.nears_of.Given as goal

abbrev pub invariant-loop-at : goal.invariant-loop-at
invariant-loop-at l = l.all.items ≡ nears l.rows l.with_switch l.at
