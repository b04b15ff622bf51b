use Rattle.jr_constants.proofs.row_value.literal.Goals as goal

pub returns-in-Word-clause-inside : goal.returns-in-Word-clause-inside
returns-in-Word-clause-inside c = c.word_value.ensures.inside c.args.texts.now
