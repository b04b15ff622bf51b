use Rattle.jr_defs.proofs.Cycles.{bare_settled}
use Rattle.jr_defs.proofs.law.a_bare_type_is_settled.Goals as goal

pub returns : goal.returns
returns c p t u k bare out = bare_settled p t u k bare out
