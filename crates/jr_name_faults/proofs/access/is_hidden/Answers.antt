use Rattle.std.proofs.Common.{ap, not}
use Rattle.jr_name_faults.specs.Views.{table_in}
use Rattle.jr_name_faults.proofs.access.is_hidden.Goals as goal

pub returns : goal.returns
returns c = λ seen. ap not (c.is_accessible.ensures (table_in c.args.view.now) seen.seen)
