use Rattle.std.proofs.Common.{◌∙◌, ap₂, nat_lt}
use Rattle.jr_member_faults.proofs.Opened.{narrower}
use Rattle.jr_member_faults.proofs.access.is_narrower.Goals as goal

pub returns : goal.returns
returns c = ap₂ nat_lt c.lowest_access.ensures c.highest_access.ensures ∙ narrower c.args.rows.now c.args.at c.args.other
