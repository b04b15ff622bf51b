use Rattle.std.proofs.Common.{◌≡◌, length}
use Rattle.jr_base.specs.Files.{plain}
use Rattle.jr_read.specs.Sizes.{passes_total}
use Rattle.jr_read.proofs.sizes.is_past.Given as goal

abbrev pub invariant-loop-rest : goal.invariant-loop-rest
invariant-loop-rest l = passes_total (plain l.rest) l.left ≡ passes_total (plain l.files) l.most

abbrev pub decreases-loop-rest : goal.decreases-loop-rest
decreases-loop-rest l = length l.rest
