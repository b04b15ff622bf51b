use Rattle.std.proofs.Common.{arith}
use Rattle.std.proofs.lemmas.List.{drop_more, drop_all}
use Rattle.jr_extract.specs.Writing.{variable_text}
use Rattle.jr_extract.proofs.Adding.{separated_end, separated_next}
use Rattle.jr_extract.proofs.texts.put_parameters.Goals as goal

pub loop-variable-preserved : goal.loop-variable-preserved
loop-variable-preserved c = separated_next (variable_text c.args.rows.now) _ _ _ _ _ _ _ (drop_more c.args.variables.now c.loop-variable.variable-index _ (omega arith)) c.in_ok-put_parameter.ensures c.loop-variable.invariant

pub returns : goal.returns
returns c = separated_end (variable_text c.args.rows.now) _ _ _ _ (drop_all c.loop-variable.variable-index c.args.variables.now (omega arith)) c.loop-variable.invariant
