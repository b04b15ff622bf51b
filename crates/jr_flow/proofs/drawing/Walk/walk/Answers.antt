use Rattle.jr_flow.specs.Walked.{steps_in}
use Rattle.jr_flow.proofs.drawing.Walk.walk.Goals as goal

pub returns : goal.returns
returns c = λ g source counted sound. c.finish.ensures g (steps_in c.args.self.now) source (c.in_ok-begin.ensures g source counted sound)
