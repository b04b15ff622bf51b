use Rattle.std.proofs.Common.{◌≡◌}
use Rattle.jr_kept.specs.Spliced.{calls_below}
use Rattle.jr_kept.proofs.joined.calls_of.Given as goal

abbrev pub invariant-loop-number : goal.invariant-loop-number
invariant-loop-number l = l.all.items ≡ calls_below l.points l.call l.number
