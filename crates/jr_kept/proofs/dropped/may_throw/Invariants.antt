use Rattle.std.proofs.Common.{◌≡◌, true}
use Rattle.jr_kept.specs.Disturbed.{MayThrow, HasThrow}
use Rattle.jr_kept.proofs.dropped.may_throw.Given as goal

abbrev pub invariant-loop-number : goal.invariant-loop-number
invariant-loop-number l = MayThrow l.range.first l.range.end l.points l.steps l.number l.found × (l.found ≡ true → HasThrow l.range.first l.range.end l.points l.steps)
