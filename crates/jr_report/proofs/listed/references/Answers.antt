use Rattle.std.proofs.Common.{arith, length}
use Rattle.jr_report.specs.Listed.{rows_in, table_in, IsReferenceTo}
use Rattle.jr_report.proofs.Listing.{listing_start, listing_more, listing_whole}
use Rattle.jr_report.proofs.Referring.{reference_below}
use Rattle.jr_report.proofs.listed.references.Goals as goal

pub loop-at-init : goal.loop-at-init
loop-at-init c = listing_start (IsReferenceTo (rows_in c.args.world.now) (table_in c.args.world.now) c.args.declared) _ c.new-all.ensures.items

pub loop-at-preserved : goal.loop-at-preserved
loop-at-preserved c = listing_more (IsReferenceTo (rows_in c.args.world.now) (table_in c.args.world.now) c.args.declared) c.loop-at.at _ _ _ c.loop-at.invariant c.is_reference-is_such.ensures c.in_ok-push_if.ensures

pub returns : goal.returns
returns c = listing_whole (IsReferenceTo (rows_in c.args.world.now) (table_in c.args.world.now) c.args.declared) c.loop-at.at (length (rows_in c.args.world.now)) _ c.loop-at.invariant
    (let past = c.loop-at-test.false in omega (arith, past, c.in-Ok.ensures)) (λ k h. reference_below (rows_in c.args.world.now) (table_in c.args.world.now) c.args.declared k h)
