use Rattle.jr_lex.proofs.Following as following
use Rattle.jr_lex.proofs.laws.follows_exactly.Goals as goal

pub returns : goal.returns
returns c = following.follows_exactly
