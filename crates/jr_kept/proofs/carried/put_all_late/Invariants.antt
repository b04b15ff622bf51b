use Rattle.std.proofs.Common.{ℕ, ◌<◌, take}
use Rattle.std.specs.List.{Contains}
use Rattle.jr_kept.specs.Ordered.{Tells}
use Rattle.jr_kept.proofs.carried.put_all_late.Given as goal

abbrev pub invariant-loop-definition : goal.invariant-loop-definition
invariant-loop-definition l = Tells l.fn.lost l.lost ((x : ℕ × ℕ) → Contains (take l.definition-index l.pairs) x → x.0 < l.count)
