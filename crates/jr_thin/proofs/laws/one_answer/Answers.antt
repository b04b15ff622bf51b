use Rattle.jr_thin.proofs.Exclusion as exclusion
use Rattle.jr_thin.proofs.laws.one_answer.Goals as goal

pub returns : goal.returns
returns c = exclusion.one_answer
