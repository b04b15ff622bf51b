use Rattle.jr_defs.specs.Referents.{entries}
use Rattle.jr_rule.specs.declared.Rule.TheVariants as rule
use Rattle.jr_faults.specs.Added.{is_rule}
use Rattle.jr_faults.proofs.Told.{none_added, only_kept, only_more, row_more}
use Rattle.jr_flow_faults.specs.ExceptionTests.{is_unthrown}
use Rattle.jr_flow_faults.proofs.catches.Arrived.note_unthrown.Goals as goal

pub loop-at-preserved : goal.loop-at-preserved
loop-at-preserved c = (
  only_more c.loop-at.invariant.0 c.in_ok-note_catch.ensures.only,
  λ telling type_of completes all. row_more c.loop-at.at rule.UnthrownCatch (is_unthrown c.args.under.now.rows.now (entries c.args.under.now.table.now) type_of completes)
      (c.loop-at.invariant.1 telling type_of completes all) (c.in_ok-note_catch.ensures.unthrown telling type_of completes all),
)

pub loop-at-init : goal.loop-at-init
loop-at-init c = (only_kept (is_rule rule.UnthrownCatch) _, λ telling type_of completes all. none_added rule.UnthrownCatch _)
