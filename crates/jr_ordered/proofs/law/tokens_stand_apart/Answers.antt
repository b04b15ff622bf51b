use Rattle.jr_ordered.proofs.Lexed as lexed
use Rattle.jr_ordered.proofs.law.tokens_stand_apart.Goals as goal

pub returns : goal.returns
returns c = lexed.tokens_apart
