use Rattle.std.proofs.Common.{◌≡◌, length}
use Rattle.jr_base.specs.Files.{plain}
use Rattle.jr_read.specs.Sizes.{has_long_path}
use Rattle.jr_read.proofs.sizes.is_long_path.Given as goal

abbrev pub invariant-loop-rest : goal.invariant-loop-rest
invariant-loop-rest l = has_long_path (plain l.rest) ≡ has_long_path (plain l.files)

abbrev pub decreases-loop-rest : goal.decreases-loop-rest
decreases-loop-rest l = length l.rest
