use Rattle.std.proofs.Common.{◌≡◌, ◌-◌}
use Rattle.jr_members.specs.Nearest as tell
use Rattle.jr_members.proofs.nearest.seek.Given as goal

abbrev pub invariant-loop-turn : goal.invariant-loop-turn
invariant-loop-turn l = tell.seek l.nodes (l.levels - l._turn) l.name l.bits l.here ≡ tell.seek l.nodes l.levels l.name l.name l.fn.tree
