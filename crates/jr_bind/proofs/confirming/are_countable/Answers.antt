use Rattle.std.proofs.Common.{arith}
use Rattle.jr_bind.proofs.confirming.are_countable.Goals as goal

pub returns : goal.returns
returns c = λ yes. let rows = c.in-Ok.ensures in let e = rows.1 in let le = c.if-end.false in (c.are_well.ensures.0 yes, omega arith)
