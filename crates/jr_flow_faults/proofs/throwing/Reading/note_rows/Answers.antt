use Rattle.std.proofs.Common.{arith}
use Rattle.jr_rule.specs.declared.Rule.TheVariants as rule
use Rattle.jr_faults.specs.Added.{is_rule}
use Rattle.jr_faults.proofs.Told.{none_added, only_kept, only_more, row_more}
use Rattle.jr_flow_faults.specs.ExceptionTests.{is_uncaught}
use Rattle.jr_flow_faults.specs.Reading.{rows_of, table_of, types_in, completes_of}
use Rattle.jr_flow_faults.proofs.throwing.Reading.note_rows.Goals as goal

pub loop-at-preserved : goal.loop-at-preserved
loop-at-preserved c = (
  only_more c.loop-at.invariant.0 c.in_ok-note_row.ensures.only,
  λ reading start. let before = c.loop-at.invariant.1 reading start in (
    c.in_ok-note_row.ensures.arrived reading (omega (arith, c.in-Ok.ensures)) before.0,
    row_more c.loop-at.at rule.UncaughtException (is_uncaught (rows_of c.args.self.now) (table_of c.args.self.now) (types_in c.args.self.now.view.now) (completes_of c.args.self.now)) before.1
        (c.in_ok-note_row.ensures.uncaught reading (omega (arith, c.in-Ok.ensures)) before.0),
  ),
)

pub loop-at-init : goal.loop-at-init
loop-at-init c = (only_kept (is_rule rule.UncaughtException) _, λ reading start. (start, none_added rule.UncaughtException _))
