use Rattle.jr_ordered.proofs.Lexed as lexed
use Rattle.jr_ordered.proofs.law.units_have_tokens_apart.Goals as goal

pub returns : goal.returns
returns c = lexed.units_apart
