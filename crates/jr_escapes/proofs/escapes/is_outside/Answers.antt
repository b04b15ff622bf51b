use Rattle.jr_escapes.proofs.Outside.{outside_first}
use Rattle.jr_escapes.proofs.escapes.is_outside.Goals as goal

pub returns-in-len1-up : goal.returns-in-len1-up
returns-in-len1-up c = outside_first c.args.tokens.now c.token-item.result c.args.at c.in-len1-up.len_at_least c.token-item.is c.requires.rising c.requires.ahead
