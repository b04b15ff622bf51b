use Rattle.jr_constants.proofs.constants.Constants.settle.Goals as goal

pub loop-turn-init : goal.loop-turn-init
loop-turn-init c = λ sized known. known

pub loop-turn-preserved : goal.loop-turn-preserved
loop-turn-preserved c = λ sized known. c.in_ok-step.ensures sized (c.loop-turn.invariant sized known)

pub returns : goal.returns
returns c = λ sized known. c.loop-turn.invariant sized known
