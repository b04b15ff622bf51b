use Rattle.jr_elab.proofs.Callable.{taken_code}
use Rattle.jr_elab.proofs.bodies.code_below.Goals as goal

pub returns : goal.returns
returns c = λ all inside none. taken_code c.args.source.now _ c.args.at _ _ _ _ all inside c.end.ensures (c.in_ok-make_below.ensures.made all inside none) c.in_ok-code.ensures
