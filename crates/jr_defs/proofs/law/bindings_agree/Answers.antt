use Rattle.jr_defs.proofs.OneBinding.{all_agree}
use Rattle.jr_defs.proofs.law.bindings_agree.Goals as goal

pub returns : goal.returns
returns c p t u formed a b h = all_agree p t u formed a b h
