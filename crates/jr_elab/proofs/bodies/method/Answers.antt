use Rattle.std.proofs.lemmas.Result.{IfOk-weaker}
use Rattle.jr_codes.specs.Reads.{facts}
use Rattle.jr_elab.proofs.Callable.{method_is}
use Rattle.jr_elab.proofs.bodies.method.Goals as goal

pub returns : goal.returns
returns c = IfOk-weaker c.callable.result _ _ (λ body makes reads inside. method_is (facts c.args.source.now) c.args.at _ _ body (c.in_ok-result_type.ensures _ (reads.read _ inside)) c.is_static_at-is_static.ensures (makes reads inside)) c.callable.ensures
