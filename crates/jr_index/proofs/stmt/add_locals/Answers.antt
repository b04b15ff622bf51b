use Rattle.std.proofs.Common.{ap}
use Rattle.jr_tree.specs.Mirror.Stmts as s
use Rattle.jr_index.specs.Events as e
use Rattle.jr_index.proofs.Adding.{goes_on, adds_two, rest_is}
use Rattle.jr_index.proofs.stmt.add_locals.Goals as goal

pub loop-local-preserved : goal.loop-local-preserved
loop-local-preserved c = goes_on c.loop-local.invariant (ap (λ xs. e.locals_events c.loop-local.commas c.args.is_final (s.plain_declarators xs)) (rest_is c.args.locals.now c.loop-local.local-index c.local-item.result c.loop-local-test.true c.local-item.is)) (adds_two c.pass.ensures c.add_local.ensures)
