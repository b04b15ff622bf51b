use Rattle.jr_lex.proofs.ChunkTexts as chunks
use Rattle.jr_lex.proofs.laws.names_are_identifiers.Goals as goal

pub returns : goal.returns
returns c = chunks.names_are_identifiers
