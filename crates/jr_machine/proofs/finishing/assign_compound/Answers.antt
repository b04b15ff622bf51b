use Rattle.std.proofs.lemmas.Result.{IfOk-weaker}
use Rattle.jr_core.specs.Mirror.{plain_code}
use Rattle.jr_machine.proofs.Taking.{compound_goes_on}
use Rattle.jr_machine.proofs.finishing.assign_compound.Goals as goal

pub returns : goal.returns
returns c =
    IfOk-weaker c.store_outcome.result _ _
    (λ went h. compound_goes_on c.args.program.now (plain_code c.args.target.now) c.args.op c.in-Some-pop.old c.in-Some.value c.in_ok-outcome.outcome c.as_slice.result.now c.pop.new.self c.pop-2.new.self c.args.state.now went c.store_outcome.new.state
    c.in-Some.ensures c.in-Some-pop.ensures c.as_slice.ensures c.in_ok-outcome.ensures h)
    c.store_outcome.ensures
