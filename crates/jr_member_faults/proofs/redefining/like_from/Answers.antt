use Rattle.jr_member_faults.specs.Views.{rows_of, table_of}
use Rattle.jr_member_faults.proofs.Overridden.{like_told}
use Rattle.jr_member_faults.proofs.redefining.like_from.Goals as goal

pub returns : goal.returns
returns c = λ h m d. let w = c.args.world.now in like_told (rows_of w) (table_of w) h.whole.world_is.seen.above.well.headed c.args.over c.args.method _ _ _ m d c.deref.ensures.value (c.in_ok-overs.ensures (table_of w) h.whole.world_is.seen.above).has (c.in_ok-all.ensures h m)
