use Rattle.std.proofs.Common.{refl}
use Rattle.jr_name_faults.proofs.Scoped.{parameters_more}
use Rattle.jr_name_faults.proofs.locals.Locals.add_parameter.Goals as goal

pub returns : goal.returns
returns c = λ p h. parameters_more c.args.self.now _ _ h refl refl refl refl refl c.parameter_entry-entry.ensures c.in_ok-add_entry.ensures
