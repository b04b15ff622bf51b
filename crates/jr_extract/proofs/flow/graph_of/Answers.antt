use Rattle.jr_extract.proofs.Extending.{graph_failed, graph_made}
use Rattle.jr_extract.proofs.flow.graph_of.Goals as goal

pub returns-in-Ok-clause-ok : goal.returns-in-Ok-clause-ok
returns-in-Ok-clause-ok c = graph_made c.args.view.now c.args.body c.in-Ok.made c.in-Ok.ensures.graph c.in-Ok.ensures.small

pub returns-in-Err-clause-fault : goal.returns-in-Err-clause-fault
returns-in-Err-clause-fault c = graph_failed c.args.view.now c.args.body c.in-Err.fault c.fault_of.result c.fault_of.ensures c.in-Err.ensures.large
