use Rattle.jr_bind.proofs.Keeping.{ready_new}
use Rattle.jr_bind.proofs.filling.Filling.new.Goals as goal

pub returns-clause-ready : goal.returns-clause-ready
returns-clause-ready c = ready_new c.args.rows.now _ c.in_ok-types.ensures c.in_ok-ints.ensures c.find_string.ensures
