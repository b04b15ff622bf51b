use Rattle.std.proofs.Common.{Err, arith, subst}
use Rattle.jr_request.specs.Input.{Leaves}
use Rattle.jr_request.specs.declared.input_fault.BatchFault.{BatchFault}
use Rattle.jr_top.proofs.hear.hear.Goals as goal

pub returns-in-Ok-clause-taken : goal.returns-in-Ok-clause-taken
returns-in-Ok-clause-taken g c bytes is = (1048577, omega arith, c.in-Ok.ensures.left bytes is)

pub returns-in-TooLarge-clause-taken : goal.returns-in-TooLarge-clause-taken
returns-in-TooLarge-clause-taken g c bytes is =
    (1048577, omega arith, subst (λ (e : BatchFault). Leaves bytes (g.I.Source.left c.read_requests.new.input) (Err e)) c.in-TooLarge.is (c.in-Err.ensures.left bytes is))

pub returns-in-Refused-clause-taken : goal.returns-in-Refused-clause-taken
returns-in-Refused-clause-taken g c bytes is =
    (1048577, omega arith, subst (λ (e : BatchFault). Leaves bytes (g.I.Source.left c.read_requests.new.input) (Err e)) c.in-Refused.is (c.in-Err.ensures.left bytes is))
