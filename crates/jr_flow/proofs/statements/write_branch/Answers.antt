use Rattle.jr_flow.proofs.Labels.{other_branch}
use Rattle.jr_flow.proofs.statements.write_branch.Goals as goal

pub returns-in-While : goal.returns-in-While
returns-in-While c = λ lt fits m view direct. rw c.in-While.is (c.write_while.ensures lt m)

pub returns-in-Do : goal.returns-in-Do
returns-in-Do c = λ lt fits m view direct. rw c.in-Do.is (c.write_do.ensures lt m)

pub returns-in_default : goal.returns-in_default
returns-in_default c = λ lt fits m view direct. c.write_expression.ensures lt fits m view (other_branch c.args.label.now direct c.in_default.not-If c.in_default.not-While c.in_default.not-Do c.in_default.not-For c.in_default.not-Switch
    c.in_default.not-Break c.in_default.not-Continue c.in_default.not-Return c.in_default.not-Throw)
