use Rattle.std.proofs.Common.{refl, subst, ◌∙◌, ◌-◌}
use Rattle.jr_expressions.specs.Stacks.{Makes}
use Rattle.jr_elab.specs.Stacked.{stacks_in}
use Rattle.jr_elab.proofs.Bodied.{waits_none, waits_back, waits_all}
use Rattle.jr_elab.proofs.statements.make_below.Goals as goal

pub loop-row-init : goal.loop-row-init
loop-row-init c = record { waits = waits_none _ _ _ _ _ c.end-end.ensures; kept = refl }

pub loop-row-preserved : goal.loop-row-preserved
loop-row-preserved c = record {
  waits = waits_back _ _ _ _ _ _ _ _ c.loop-row.invariant.waits c.first-first.ensures c.loop-row-test.true
      (subst (λ o. Makes c.args.source.now o (c.loop-row.row - 1) (stacks_in c.loop-row.making) (stacks_in c.make.new.making)) c.loop-row.invariant.kept c.in_ok-make.ensures.made);
  kept = c.in_ok-make.ensures.same ∙ c.loop-row.invariant.kept;
}

pub returns-clause-made : goal.returns-clause-made
returns-clause-made c = λ read inside none. waits_all _ _ _ _ _ _ _ c.loop-row.invariant.waits c.first-first.ensures c.loop-row-test.false read inside none
