use Rattle.std.proofs.lemmas.Result.{on_ok_weaker}
use Rattle.jr_assign_faults.proofs.Finals.{finals_exact}
use Rattle.jr_assign_faults.proofs.assign_faults.Goals as goal

pub returns-clause-finals : goal.returns-clause-finals
returns-clause-finals c = λ local. on_ok_weaker c.all_faults.result (finals_exact c.args.view.now _ _ local) c.all_faults.ensures.changed
