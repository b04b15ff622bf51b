use Rattle.std.proofs.Common.{◌∙◌, ap, Some}
use Rattle.jr_expressions.proofs.Passed.{arguments_more, arguments_all}
use Rattle.jr_expressions.proofs.calls.arguments.Goals as goal

pub loop-row-preserved : goal.loop-row-preserved
loop-row-preserved c = arguments_more _ _ _ _ _ _ _ _ _ c.loop-row.invariant c.in-Some.ensures c.in_ok-add_argument.ensures

pub returns : goal.returns
returns c = arguments_all _ _ _ _ _ _ c.loop-row.invariant c.in_default.ensures (λ signed. c.has_parameters.ensures signed c.if-not-has_parameters.false ∙ ap Some c.len.ensures)
