use Rattle.std.proofs.Common.{ap}
use Rattle.jr_tree.specs.Mirror.Stmts as s
use Rattle.jr_index.specs.Events as e
use Rattle.jr_index.proofs.Adding.{goes_on, rest_is}
use Rattle.jr_index.proofs.stmt.add_cases.Goals as goal

pub loop-label-preserved : goal.loop-label-preserved
loop-label-preserved c = goes_on c.loop-label.invariant (ap (λ xs. e.cases_events (s.plain_labels xs)) (rest_is c.args.labels.now c.loop-label.label-index c.label-item.result c.loop-label-test.true c.label-item.is)) c.add_case.ensures
