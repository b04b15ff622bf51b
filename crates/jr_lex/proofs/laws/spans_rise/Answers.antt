use Rattle.jr_lex.proofs.Spans as spans
use Rattle.jr_lex.proofs.laws.spans_rise.Goals as goal

pub returns : goal.returns
returns c = spans.spans_rise
