use Rattle.jr_flow_faults.proofs.Rooted.{roots_told}
use Rattle.jr_flow_faults.proofs.classes.Roots.of.Goals as goal

pub returns : goal.returns
returns c = λ few one. roots_told c.args.rows.now _ _ _ _ one (c.prelude_type-throwable.ensures few) (c.prelude_type-exception.ensures few) (c.prelude_type-error.ensures few) (c.prelude_type-runtime.ensures few)
