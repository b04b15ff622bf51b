use Rattle.std.proofs.lemmas.Result.{on_ok_weaker}
use Rattle.jr_codes.specs.Making.{code}
use Rattle.jr_expressions.proofs.Standing.{one_becomes}
use Rattle.jr_expressions.proofs.expressions.parenthesized.Goals as goal

pub returns : goal.returns
returns c = on_ok_weaker c.hand_on.result (λ on. one_becomes (λ m a. code a) on.was on.is) c.hand_on.ensures
