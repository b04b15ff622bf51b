use Rattle.std.proofs.Common.{refl}
use Rattle.jr_member_faults.proofs.faults.faults_with.Goals as goal

pub returns-clause-exact : goal.returns-clause-exact
returns-clause-exact c = λ th. c.in_ok-all_faults.ensures.exact (record {
  world_is = refl;
  are = λ right. record { can = record { right = right; thrown_are = th }; uppers_are = c.in_ok-uppers.ensures.signed; kept_are = c.in_ok-uppers.ensures.kept right th; lefts_are = c.in_ok-lefts.ensures right th };
})

pub returns-clause-only : goal.returns-clause-only
returns-clause-only c = c.in_ok-all_faults.ensures.only
