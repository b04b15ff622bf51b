use Rattle.jr_lex.proofs.Following as following
use Rattle.jr_lex.proofs.laws.simply_follows.Goals as goal

pub returns : goal.returns
returns c = following.simply
