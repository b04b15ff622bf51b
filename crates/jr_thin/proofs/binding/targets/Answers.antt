use Rattle.std.proofs.Common.{arith}
use Rattle.jr_thin.proofs.ScopeLemmas.{unbound_at}
use Rattle.jr_thin.proofs.binding.targets.Goals as goal

pub returns-in_default : goal.returns-in_default
returns-in_default c = unbound_at c.args.sites.now c.loop-index.index (omega arith) c.in_default.ensures.target
