use Rattle.std.proofs.Common.{sym, ◌∙◌, ap, length, arith}
use Rattle.jr_lex.proofs.CandidateRows.{candidate_row, keyword_long}
use Rattle.jr_lex.proofs.keywords.candidate.Goals as goal

pub returns-then-word-lt2 : goal.returns-then-word-lt2
returns-then-word-lt2 c k e = absurd (omega (arith, keyword_long k, ap length e, c.if-word-lt2.true))

pub returns : goal.returns
returns c k e = c.by_length.ensures ∙ (rw e at (candidate_row k))
