use Rattle.std.proofs.Common.{length}
use Rattle.test_store.proofs.limits.+fit.Given as goal

abbrev pub decreases-fit : goal.decreases-fit
decreases-fit l = length l.files.now
