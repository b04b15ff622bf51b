use Rattle.jr_lex.proofs.ChunkTexts as chunks
use Rattle.jr_lex.proofs.laws.gap_follows_exactly.Goals as goal

pub returns : goal.returns
returns c = chunks.gap_follows_exactly
