use Rattle.std.proofs.lemmas.Result.{on_ok_weaker}
use Rattle.jr_core.specs.declared.code.Code.TheVariants as v
use Rattle.jr_codes.specs.Reads.{facts}
use Rattle.jr_expressions.proofs.Passed.{arguments_become}
use Rattle.jr_expressions.proofs.calls.call_on.Goals as goal

pub returns : goal.returns
returns c = on_ok_weaker c.push.result (λ pushed. arguments_become (v.Call c.args.receiver c.args.is_super ((facts c.args.source.now).decl c.args.row)) c.end.ensures c.in_ok-args.ensures (rw c.decl-method.ensures at pushed)) c.push.ensures
