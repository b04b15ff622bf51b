use Rattle.jr_runs.proofs.Locking.{kept}
use Rattle.jr_runs.proofs.law.locks_are_kept.Goals as goal

pub returns : goal.returns
returns c = λ p t l q v h n lt stays. kept p t l q v h n lt stays
