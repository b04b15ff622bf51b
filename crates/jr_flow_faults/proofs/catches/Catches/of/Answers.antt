use Rattle.jr_defs.specs.Referents.{entries}
use Rattle.jr_rule.specs.declared.Rule.TheVariants as rule
use Rattle.jr_faults.proofs.Told.{none_added, only_kept, only_more, row_more}
use Rattle.jr_flow_faults.specs.ExceptionTests.{is_covered}
use Rattle.jr_faults.specs.Added.{is_rule}
use Rattle.jr_flow_faults.proofs.Exceptions.{covered_added}
use Rattle.jr_flow_faults.proofs.Covered.{catches_start, catches_more}
use Rattle.jr_flow_faults.proofs.catches.Catches.of.Goals as goal

pub loop-at-preserved : goal.loop-at-preserved
loop-at-preserved c = (
  only_more c.loop-at.invariant.0 c.in_ok-note_catch.ensures.only,
  λ sized. catches_more c.args.under.now.rows.now (entries c.args.under.now.table.now) c.loop-at.at _ _ (c.loop-at.invariant.1 sized) (c.in_ok-note_catch.ensures.added sized),
  λ sized above. row_more c.loop-at.at rule.CoveredCatch (is_covered c.args.under.now.rows.now (entries c.args.under.now.table.now)) (c.loop-at.invariant.2 sized above)
      (c.in_ok-note_catch.ensures.covered sized above (c.loop-at.invariant.1 sized)),
)

pub loop-at-init : goal.loop-at-init
loop-at-init c = (only_kept (is_rule rule.CoveredCatch) _, λ sized. catches_start c.args.under.now.rows.now (entries c.args.under.now.table.now) _ c.new-table.ensures, λ sized above. none_added rule.CoveredCatch _)

pub returns-clause-only : goal.returns-clause-only
returns-clause-only c = covered_added c.loop-at.invariant.0
