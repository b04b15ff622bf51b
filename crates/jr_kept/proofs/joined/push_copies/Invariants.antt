use Rattle.std.proofs.Common.{◌≡◌, ◌++◌, ◌-◌}
use Rattle.jr_kept.specs.Spliced.{copies}
use Rattle.jr_kept.proofs.joined.push_copies.Given as goal

abbrev pub invariant-loop-turn : goal.invariant-loop-turn
invariant-loop-turn l = l.all.items ++ copies (l.count - l._turn) l.points ≡ l.fn.all.items ++ copies l.count l.points
