use Rattle.jr_constants.proofs.constants.Constants.settle_all.Goals as goal

pub loop-at-init : goal.loop-at-init
loop-at-init c = λ sized known. known

pub returns : goal.returns
returns c = λ sized known. c.loop-at.invariant sized known
