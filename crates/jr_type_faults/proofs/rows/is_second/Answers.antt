use Rattle.std.proofs.Common.{ap, arith, nat_eq, ◌+◌}
use Rattle.jr_type_faults.proofs.Standing.{second_far}
use Rattle.jr_type_faults.proofs.rows.is_second.Goals as goal

pub returns-in-Some : goal.returns-in-Some
returns-in-Some c = λ few. ap (nat_eq c.args.at) (c.end_at.ensures (omega arith))

pub returns-in-None : goal.returns-in-None
returns-in-None c = λ few. second_far c.args.all.now c.args.at (c.args.over + 1) (omega arith) (omega arith)
