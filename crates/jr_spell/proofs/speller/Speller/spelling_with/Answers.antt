use Rattle.jr_spell.proofs.speller.Speller.spelling_with.Goals as goal

pub returns-clause-first : goal.returns-clause-first
returns-clause-first c = λ given whole sought gives exact. c.spelling_of.ensures.first _ c.args.self.now (c.in_ok-fit.ensures given whole sought gives exact)
