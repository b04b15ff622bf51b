use Rattle.std.proofs.Common.{arith, length}
use Rattle.jr_report.specs.Listed.{rows_in, table_in, IsSubtypeOf}
use Rattle.jr_report.proofs.Listing.{listing_start, listing_more, listing_whole}
use Rattle.jr_report.proofs.Referring.{subtype_below}
use Rattle.jr_report.proofs.listed.subtypes.Goals as goal

pub loop-at-init : goal.loop-at-init
loop-at-init c = λ supers. listing_start (IsSubtypeOf (rows_in c.args.world.now) (table_in c.args.world.now) c.args.over) _ c.new-all.ensures.items

pub loop-at-preserved : goal.loop-at-preserved
loop-at-preserved c = λ supers. listing_more (IsSubtypeOf (rows_in c.args.world.now) (table_in c.args.world.now) c.args.over) c.loop-at.at _ _ _ (c.loop-at.invariant supers) (c.is_subtype-is_such.ensures supers) c.in_ok-push_if.ensures

pub returns : goal.returns
returns c = λ supers. listing_whole (IsSubtypeOf (rows_in c.args.world.now) (table_in c.args.world.now) c.args.over) c.loop-at.at (length (rows_in c.args.world.now)) _ (c.loop-at.invariant supers)
    (let past = c.loop-at-test.false in omega (arith, past, c.in-Ok.ensures)) (λ k h. subtype_below (rows_in c.args.world.now) (table_in c.args.world.now) c.args.over k h)
