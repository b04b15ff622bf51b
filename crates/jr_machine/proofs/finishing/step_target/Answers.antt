use Rattle.std.proofs.lemmas.Result.{IfOk-weaker}
use Rattle.jr_core.specs.Mirror.{plain_code}
use Rattle.jr_machine.proofs.Taking.{step_goes_on}
use Rattle.jr_machine.proofs.finishing.step_target.Goals as goal

pub returns : goal.returns
returns c =
    IfOk-weaker c.store_stepped.result _ _
    (λ went h. step_goes_on c.args.program.now (plain_code c.args.target.now) c.args.op c.args.is_post c.in-Some.old c.stepped-outcome.result c.pop.new.self c.args.state.now went c.store_stepped.new.state c.in-Some.ensures c.stepped-outcome.ensures h)
    c.store_stepped.ensures
