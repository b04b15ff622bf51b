use Rattle.jr_lex.proofs.words.word_len.Goals as goal

pub returns-in-Some : goal.returns-in-Some
returns-in-Some c = (c.run_end.ensures.after, c.in-Some.ensures.1 c.run_end.result c.run_end.ensures.run, c.run_end.ensures.ends)
