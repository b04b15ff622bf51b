use Rattle.std.proofs.Common.{◌≡◌, length}
use Rattle.jr_package.specs.Repackaging.{Merged, merged_before}
use Rattle.jr_package.proofs.moving.Moving.merge_before.Given as goal

abbrev pub invariant-loop-next : goal.invariant-loop-next
invariant-loop-next l = merged_before l.self.named.now.marks.now l.self.folder.now l.unit l.units.items l.rest ≡ merged_before l.self.named.now.marks.now l.self.folder.now l.unit l.fn.units.items l.left

abbrev pub decreases-loop-next : goal.decreases-loop-next
decreases-loop-next l = length l.rest
