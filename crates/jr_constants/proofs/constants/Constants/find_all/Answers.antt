use Rattle.jr_constants.proofs.constants.Constants.find_all.Goals as goal

pub loop-at-init : goal.loop-at-init
loop-at-init c = λ k sized known. known

pub loop-at-preserved : goal.loop-at-preserved
loop-at-preserved c = λ k sized known. c.find_lacking.ensures k sized (c.loop-at.invariant k sized known)

pub returns : goal.returns
returns c = c.loop-at.invariant
