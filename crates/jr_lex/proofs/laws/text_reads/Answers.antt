use Rattle.jr_lex.proofs.ChunkTexts as chunks
use Rattle.jr_lex.proofs.laws.text_reads.Goals as goal

pub returns : goal.returns
returns c = chunks.text_reads
