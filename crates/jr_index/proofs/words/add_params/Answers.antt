use Rattle.std.proofs.Common.{ap}
use Rattle.jr_index.specs.Events as e
use Rattle.jr_index.proofs.Adding.{goes_on, adds_two, rest_is}
use Rattle.jr_index.proofs.words.add_params.Goals as goal

pub loop-param-preserved : goal.loop-param-preserved
loop-param-preserved c = goes_on c.loop-param.invariant (ap (λ xs. e.params_events c.loop-param.commas xs) (rest_is c.args.params.now c.loop-param.param-index c.param-item.result c.loop-param-test.true c.param-item.is)) (adds_two c.pass.ensures c.add_param.ensures)
