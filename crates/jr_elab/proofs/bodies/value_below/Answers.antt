use Rattle.std.proofs.lemmas.Result.{IfOk-weaker}
use Rattle.jr_elab.proofs.Callable.{first_waits}
use Rattle.jr_elab.proofs.bodies.value_below.Goals as goal

pub returns : goal.returns
returns c = IfOk-weaker c.first_of.result _ _ (λ value first all inside none. first_waits c.args.source.now _ c.args.at _ _ value all inside c.end.ensures (c.in_ok-make_below.ensures.made all inside none) first) c.first_of.ensures
