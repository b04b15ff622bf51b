use Rattle.std.proofs.Common.{arith}
use Rattle.jr_type_faults.proofs.Standing.{next_some, next_none}
use Rattle.jr_type_faults.proofs.rows.is_next.Goals as goal

pub returns-in-Some : goal.returns-in-Some
returns-in-Some c = next_some c.args.at c.in-Some.before c.args.over (omega arith)

pub returns-in-None : goal.returns-in-None
returns-in-None c = next_none c.args.at c.args.over (omega arith)
