use Rattle.jr_constants.proofs.constants.Constants.find_lacking.Goals as goal

pub returns-then-not-lacks_at : goal.returns-then-not-lacks_at
returns-then-not-lacks_at c = λ k sized known. known

pub returns : goal.returns
returns c = c.find_at.ensures
