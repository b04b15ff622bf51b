use Rattle.jr_flow_faults.specs.Computed.{table_in}
use Rattle.jr_flow_faults.proofs.Leaving.{uncaught_told}
use Rattle.jr_flow_faults.proofs.going.Tracing.is_uncaught.Goals as goal

pub returns : goal.returns
returns c = λ of. uncaught_told c.args.self.now of c.args.over c.args.class c.in_ok-is_caught.is_caught (c.in_ok-is_caught.ensures (table_in c.args.self.now.view.now) of.view.above of.catches)
