use Rattle.std.proofs.lemmas.Result.{on_ok_weaker}
use Rattle.jr_codes.specs.Reads.{facts}
use Rattle.jr_expressions.specs.Calls.{call_alone}
use Rattle.jr_expressions.proofs.Standing.{along}
use Rattle.jr_expressions.proofs.calls.own_call.Goals as goal

pub returns : goal.returns
returns c = on_ok_weaker c.call_on.result (along (λ o parts. call_alone (facts c.args.source.now) c.args.row o parts) c.in_ok-this_at.ensures) c.call_on.ensures
