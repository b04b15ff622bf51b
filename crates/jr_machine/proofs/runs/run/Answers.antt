use Rattle.std.proofs.lemmas.Result.{IfOk-weaker}
use Rattle.jr_base.specs.Mirror.{plain_ty}
use Rattle.jr_core.specs.Mirror.{plain_code, plain_core}
use Rattle.jr_machine.proofs.Running.{starts_run}
use Rattle.jr_machine.proofs.runs.run.Goals as goal

pub returns : goal.returns
returns c =
    IfOk-weaker c.run_call-ran.result _ _
    (λ ran h. starts_run (plain_core c.args.core.now) c.args.start (plain_ty c.strings-strings.result) (plain_code c.in_ok-call.call) c.args.n ran c.strings-strings.ensures c.in_ok-call.ensures h)
    c.run_call-ran.ensures
