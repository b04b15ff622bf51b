use Rattle.jr_defs.specs.Supertypes.{AtOrAbove}
use Rattle.jr_plain.proofs.Supertyped.{at_or_above_tells}
use Rattle.jr_supers.proofs.Subtyped.{one_test}
use Rattle.jr_flow_faults.proofs.thrown.is_above.Goals as goal

pub returns : goal.returns
returns c = λ t above. one_test _ _ (AtOrAbove c.args.under.now.rows.now t c.args.class c.args.over) (c.is_at_or_above.ensures t above) (at_or_above_tells c.args.under.now.rows.now t above.well.headed c.args.class c.args.over)
