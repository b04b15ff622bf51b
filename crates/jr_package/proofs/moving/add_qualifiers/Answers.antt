use Rattle.jr_package.proofs.Steps.{qualifiers_more}
use Rattle.jr_package.proofs.moving.add_qualifiers.Goals as goal

pub loop-qualifier-preserved : goal.loop-qualifier-preserved
loop-qualifier-preserved c = qualifiers_more c.loop-qualifier._qualifier c.args.draft.now _ _ c.loop-qualifier.invariant c.in_ok-refer.ensures
