use Rattle.std.proofs.Common.{ap}
use Rattle.jr_tree.specs.Mirror.Decls as d
use Rattle.jr_index.specs.Events as e
use Rattle.jr_index.proofs.Adding.{goes_on, rest_is}
use Rattle.jr_index.proofs.decl.add_decls.Goals as goal

pub loop-decl-preserved : goal.loop-decl-preserved
loop-decl-preserved c = goes_on c.loop-decl.invariant (ap (λ xs. e.decls_events (d.plain_decls xs)) (rest_is c.args.decls.now c.loop-decl.decl-index c.decl-item.result c.loop-decl-test.true c.decl-item.is)) c.add_decl.ensures
