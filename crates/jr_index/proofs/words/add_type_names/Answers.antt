use Rattle.std.proofs.Common.{ap}
use Rattle.jr_index.specs.Events as e
use Rattle.jr_index.proofs.Adding.{goes_on, adds_two, rest_is}
use Rattle.jr_index.proofs.words.add_type_names.Goals as goal

pub loop-name-preserved : goal.loop-name-preserved
loop-name-preserved c = goes_on c.loop-name.invariant (ap (λ xs. e.names_events c.args.place xs) (rest_is c.args.names.now c.loop-name.name-index c.name-item.result c.loop-name-test.true c.name-item.is)) (adds_two c.pass.ensures c.add_name.ensures)
