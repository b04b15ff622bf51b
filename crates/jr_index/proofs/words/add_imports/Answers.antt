use Rattle.std.proofs.Common.{ap}
use Rattle.jr_index.specs.Events as e
use Rattle.jr_index.proofs.Adding.{goes_on, rest_is}
use Rattle.jr_index.proofs.words.add_imports.Goals as goal

pub loop-import-preserved : goal.loop-import-preserved
loop-import-preserved c = goes_on c.loop-import.invariant (ap (λ xs. e.imports_events xs) (rest_is c.args.imports.now c.loop-import.import-index c.import-item.result c.loop-import-test.true c.import-item.is)) c.add_import.ensures
