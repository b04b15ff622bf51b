use Rattle.std.proofs.Common.{sym, ◌∙◌}
use Rattle.std.proofs.lemmas.Result.{IfOk-weaker}
use Rattle.jr_expressions.proofs.Converting.{written_from}
use Rattle.jr_expressions.proofs.conversions.conversion.Goals as goal

pub returns-then-is_written : goal.returns-then-is_written
returns-then-is_written c = IfOk-weaker c.cast_or.result _ _ (λ made is. written_from c.args.source.now c.args.at c.args.from c.args.to c.args.code c.folded.result (sym c.is_written.ensures ∙ c.if-is_written.true) (rw c.value.ensures at c.folded.ensures) is) c.cast_or.ensures
