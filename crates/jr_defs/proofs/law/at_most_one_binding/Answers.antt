use Rattle.jr_defs.proofs.Settling.{one_binding}
use Rattle.jr_defs.proofs.law.at_most_one_binding.Goals as goal

pub returns : goal.returns
returns c p t u formed a b = one_binding p t u formed a b
