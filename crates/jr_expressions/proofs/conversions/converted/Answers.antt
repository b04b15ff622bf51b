use Rattle.std.proofs.lemmas.Result.{IfOk-weaker}
use Rattle.jr_expressions.proofs.Converting.{converts}
use Rattle.jr_expressions.proofs.conversions.converted.Goals as goal

pub returns : goal.returns
returns c = IfOk-weaker c.conversion.result _ _ (λ made is. converts c.args.source.now c.in_ok-from.ensures c.in_ok-code.ensures is) c.conversion.ensures
