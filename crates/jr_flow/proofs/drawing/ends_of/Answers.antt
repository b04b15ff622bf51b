use Rattle.std.proofs.Common.{arith}
use Rattle.jr_flow.proofs.drawing.ends_of.Goals as goal

pub returns : goal.returns
returns c = λ g flow. c.shorten_all.ensures c.args.states.now g (c.in_ok-ends.ensures (omega (arith, c.in-Ok.ensures.1, c.count.ensures)) g flow)
