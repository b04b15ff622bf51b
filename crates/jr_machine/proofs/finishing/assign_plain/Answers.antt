use Rattle.std.proofs.lemmas.Result.{IfOk-weaker}
use Rattle.jr_core.specs.Mirror.{plain_code}
use Rattle.jr_machine.proofs.Taking.{plain_goes_on}
use Rattle.jr_machine.proofs.finishing.assign_plain.Goals as goal

pub returns : goal.returns
returns c =
    IfOk-weaker c.store.result _ _
    (λ went h. plain_goes_on c.args.program.now (plain_code c.args.target.now) c.in-Some.value c.copy-gives.result c.pop.new.self c.args.state.now went c.store.new.state c.in-Some.ensures c.copy-gives.ensures h)
    c.store.ensures
