use Rattle.jr_flow.proofs.Labels.{other_direct}
use Rattle.jr_flow.proofs.statements.write_row.Goals as goal

pub returns-in_default : goal.returns-in_default
returns-in_default c = λ lt fits m view. c.write_branch.ensures lt fits m view (other_direct c.args.label.now c.in_default.not-Method c.in_default.not-Constructor c.in_default.not-Field c.in_default.not-Parameter c.in_default.not-Local
    c.in_default.not-Skip c.in_default.not-Eval c.in_default.not-Locals c.in_default.not-Case c.in_default.not-Try)
