use Rattle.std.proofs.lemmas.Result.{IfOk-weaker}
use Rattle.jr_machine_exits.proofs.Passing.{item_exits}
use Rattle.jr_machine_exits.proofs.exits.exit.Goals as goal

pub returns-in-Some : goal.returns-in-Some
returns-in-Some c =
    IfOk-weaker c.unwind.result _ _
    (λ went h. item_exits c.args.program.now c.args.leaving c.in-Some.item c.pop.new.self c.args.state.now.frame.work c.args.state.now went c.unwind.new.state c.in-Some.ensures h)
    c.unwind.ensures
