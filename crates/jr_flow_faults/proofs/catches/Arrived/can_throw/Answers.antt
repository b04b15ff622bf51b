use Rattle.std.proofs.Common.{sym, subst}
use Rattle.jr_defs.specs.Supertypes.{AtOrAbove}
use Rattle.jr_supers.specs.Supers.{ListsOnce}
use Rattle.jr_flow_faults.proofs.catches.Arrived.can_throw.Goals as goal

pub returns : goal.returns
returns c = λ t above are. c.has.ensures c.args.under.now.rows.now t (subst (λ xs. ListsOnce xs (AtOrAbove c.args.under.now.rows.now t c.args.class)) (sym c.deref.ensures.value) (c.in_ok-uppers.ensures t above)) are
