use Rattle.std.proofs.Common.{length, take}
use Rattle.jr_kept.specs.Listed.{under_in}
use Rattle.jr_kept.specs.Named.{origin_in}
use Rattle.jr_kept.specs.Carried.{Grows, AreDefined, OnlyDefines, IsCopyOfOne}
use Rattle.jr_kept.proofs.carried.put_values.Given as goal

abbrev pub invariant-loop-value : goal.invariant-loop-value
invariant-loop-value l = Grows l.fn.made l.made × AreDefined l.made (length l.fn.made.points.items) l.hub (take l.value-index l.values) (under_in l.copies) (origin_in l.origin)
    × OnlyDefines l.fn.made l.made l.hub (IsCopyOfOne (take l.value-index l.values) (under_in l.copies) (origin_in l.origin))
