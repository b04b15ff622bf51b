use Rattle.jr_lex.proofs.RespelledText as text
use Rattle.jr_lex.proofs.laws.respelled_reads.Goals as goal

pub returns : goal.returns
returns c = text.respelled_reads
