use Rattle.std.proofs.Common.{◌≡◌, length}
use Rattle.jr_base.specs.Files.{plain}
use Rattle.jr_read.specs.Sizes.{has_large_file}
use Rattle.jr_read.proofs.sizes.is_large_file.Given as goal

abbrev pub invariant-loop-rest : goal.invariant-loop-rest
invariant-loop-rest l = has_large_file (plain l.rest) ≡ has_large_file (plain l.files)

abbrev pub decreases-loop-rest : goal.decreases-loop-rest
decreases-loop-rest l = length l.rest
