use Rattle.jr_constants.proofs.constants.Constants.set_all.Goals as goal

pub loop-part-init : goal.loop-part-init
loop-part-init c = λ sized known. known

pub loop-part-preserved : goal.loop-part-preserved
loop-part-preserved c = λ sized known. c.in_ok-set.ensures.known sized (c.loop-part.invariant sized known)

pub returns : goal.returns
returns c = λ sized known. c.loop-part.invariant sized known
