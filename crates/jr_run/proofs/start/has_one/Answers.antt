use Rattle.jr_plain.specs.Types.{parameters}
use Rattle.jr_run.proofs.Started.{one_away, one_there}
use Rattle.jr_run.proofs.Called.{method_callable}
use Rattle.jr_run.proofs.start.has_one.Goals as goal

pub returns-in-Some : goal.returns-in-Some
returns-in-Some c = λ p t signed method. one_there (parameters p t c.args.at) _ (c.in-Some.ensures p t signed (method_callable p c.args.at method))

pub returns-in-None : goal.returns-in-None
returns-in-None c = λ p t signed method. one_away (parameters p t c.args.at) (c.in-None.ensures p t signed (method_callable p c.args.at method))
