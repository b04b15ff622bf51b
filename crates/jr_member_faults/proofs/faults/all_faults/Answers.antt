use Rattle.jr_member_faults.proofs.Tables.{declared_start}
use Rattle.jr_member_faults.proofs.faults.all_faults.Goals as goal

pub returns-clause-exact : goal.returns-clause-exact
returns-clause-exact c = λ methods. let new = c.new-declared.ensures in c.in_ok-put_faults.ensures.exact methods (declared_start _ _ new.types new.fields new.methods new.constructors new.lists) c.new-headers.ensures

pub returns-clause-only : goal.returns-clause-only
returns-clause-only c = c.in_ok-put_faults.ensures.only
