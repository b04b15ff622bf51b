use Rattle.std.proofs.Common.{subst}
use Rattle.std.proofs.lemmas.Result.{IfOk-weaker}
use Rattle.jr_core.specs.Mirror.{plain_core}
use Rattle.jr_machine_defs.specs.Steps.{IsRun}
use Rattle.jr_run.proofs.run.text_of_core.Goals as goal

pub returns : goal.returns
returns c = λ placed. IfOk-weaker c.report.result _ _
    (λ text is. record {
      ran = c.in_ok-ran.ran;
      runs = subst (λ d. IsRun (plain_core c.args.core.now) d c.args.steps c.in_ok-ran.ran) c.decl.ensures c.in_ok-ran.ensures;
      reports = is placed;
    }) c.report.ensures
