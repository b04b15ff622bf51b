use Rattle.std.proofs.Common.{length}
use Rattle.jr_flow_faults.proofs.catches.Catches.catches.Goals as goal

pub returns : goal.returns
returns c = λ t above are. c.is_caught.ensures t (length c.args.rows.now) above are
