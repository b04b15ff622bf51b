use Rattle.std.proofs.lemmas.Result.{IfOk-weaker}
use Rattle.jr_elab.proofs.Callable.{initialized_some, initialized_none}
use Rattle.jr_elab.proofs.bodies.field_code.Goals as goal

pub returns-in-Some : goal.returns-in-Some
returns-in-Some c = IfOk-weaker c.initialization_of.result _ _ (λ all made reads inside. initialized_some _ c.in-Some.is (c.in_ok-value.ensures reads inside) made) c.initialization_of.ensures

pub returns-in-None : goal.returns-in-None
returns-in-None c = λ reads inside. initialized_none c.in-None.is (c.in_ok-value.ensures reads inside) c.new.ensures
