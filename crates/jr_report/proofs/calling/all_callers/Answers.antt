use Rattle.std.proofs.Common.{arith, length}
use Rattle.jr_report.specs.Calling.{IsSoughtIn, view_rows}
use Rattle.jr_report.proofs.Listing.{listing_start, listing_more, listing_whole}
use Rattle.jr_report.proofs.Seeking.{code_below, in_range}
use Rattle.jr_report.proofs.calling.all_callers.Goals as goal

pub loop-at-init : goal.loop-at-init
loop-at-init c = λ tree. listing_start (IsSoughtIn c.args.view.now c.args.sought.called.now c.args.sought.is_to_string) _ c.new-all.ensures.items

pub loop-at-preserved : goal.loop-at-preserved
loop-at-preserved c = λ tree. listing_more (IsSoughtIn c.args.view.now c.args.sought.called.now c.args.sought.is_to_string) c.loop-at.at _ _ _ (c.loop-at.invariant tree)
    (c.is_caller-is_such.ensures (in_range c.args.view.now c.args.sought.called.now c.args.sought.is_to_string c.loop-at.at c.in-Ok.count tree c.in-Ok.ensures.1 c.loop-at-test.true (omega arith))) c.in_ok-push_if.ensures

pub returns : goal.returns
returns c = λ tree. listing_whole (IsSoughtIn c.args.view.now c.args.sought.called.now c.args.sought.is_to_string) c.loop-at.at (length (view_rows c.args.view.now)) _ (c.loop-at.invariant tree)
    (let past = c.loop-at-test.false in omega (arith, past, c.in-Ok.ensures.1)) (λ k h. code_below c.args.view.now c.args.sought.called.now c.args.sought.is_to_string k h)
