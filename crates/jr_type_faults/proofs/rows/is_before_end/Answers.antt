use Rattle.std.proofs.Common.{sym}
use Rattle.std.proofs.lemmas.Bool.{ltb-false}
use Rattle.jr_type_faults.proofs.Standing.{before_end_past}
use Rattle.jr_type_faults.proofs.rows.is_before_end.Goals as goal

pub returns-in-None : goal.returns-in-None
returns-in-None c = before_end_past c.args.all.now c.args.at c.args.over (ltb-false _ _ (sym c.in-None.ensures.lookup.0))
