use Rattle.std.proofs.Common.{◌≡◌, ℕ, length, take}
use Rattle.std.specs.List.{Contains}
use Rattle.jr_kept.specs.Carried.{Grows, IsDefinedBefore, OnlyDefines, IsOtherOf}
use Rattle.jr_kept.proofs.carried.put_others.Given as goal

abbrev pub invariant-loop-copy : goal.invariant-loop-copy
invariant-loop-copy l = Grows l.fn.made l.made × ((copy : ℕ) → Contains (take l.copy-index l.copies) copy → (l.value.local ≡ copy → ⊥) → IsDefinedBefore l.made (length l.fn.made.points.items) l.hub l.value.row copy)
    × OnlyDefines l.fn.made l.made l.hub (IsOtherOf l.value (take l.copy-index l.copies))
