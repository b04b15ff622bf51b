use Rattle.std.proofs.Common.{arith}
use Rattle.jr_runs.proofs.compare.first_beside.Goals as goal

pub returns-then-new_rows-len-clause-none : goal.returns-then-new_rows-len-clause-none
returns-then-new_rows-len-clause-none c = λ h. record {
  stand = c.first_other.ensures.none h;
  all = omega (arith, c.if-new_rows-len.true, c.len.ensures, c.args.plan.now.items.ok.0);
}
