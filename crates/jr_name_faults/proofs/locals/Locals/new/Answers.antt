use Rattle.std.proofs.Common.{refl}
use Rattle.jr_name_faults.proofs.Scoped.{locals_start}
use Rattle.jr_name_faults.proofs.locals.Locals.new.Goals as goal

pub returns : goal.returns
returns c = λ placed few. locals_start c.args.rows.now _ refl placed few c.in_ok-variables.ensures c.in_ok-labels.ensures c.new-3.ensures c.new-4.ensures
