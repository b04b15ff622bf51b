use Rattle.std.proofs.Common.{ℕ, length, take}
use Rattle.std.specs.List.{Contains}
use Rattle.jr_kept.specs.Carried.{Grows, IsUsedAfter, OnlyBehind}
use Rattle.jr_kept.proofs.carried.put_uses.Given as goal

abbrev pub invariant-loop-local : goal.invariant-loop-local
invariant-loop-local l = Grows l.fn.made l.made × ((d : ℕ) → Contains (take l.local-index l.locals) d → IsUsedAfter l.made (length l.fn.made.points.items) l.from d) × OnlyBehind l.fn.made l.made l.from
