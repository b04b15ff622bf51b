use Rattle.jr_escapes.proofs.Outside.{lex_rising}
use Rattle.jr_read.proofs.lexed.lex_file.Goals as goal

pub first_bad_escape-requires-clause-rising : goal.first_bad_escape-requires-clause-rising
first_bad_escape-requires-clause-rising c = lex_rising c.args.bytes.now c.in-Ok.tokens.items c.deref.result.now c.deref.ensures.value c.in-Ok.ensures.found
