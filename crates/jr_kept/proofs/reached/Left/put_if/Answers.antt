use Rattle.std.proofs.Common.{◌∙◌}
use Rattle.jr_kept.proofs.reached.Left.put_if.Goals as goal

pub returns-then-is_left : goal.returns-then-is_left
returns-then-is_left c = λ points met n at is h. c.put.ensures points met n at (is ∙ c.if-is_left.true) h

pub returns : goal.returns
returns c = λ points met n at is h. c.pass.ensures points met n (is ∙ c.if-is_left.false) h
