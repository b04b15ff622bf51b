use Rattle.jr_places.proofs.Tables.{walked_start, walked_more, place_falls}
use Rattle.jr_member_faults.proofs.redefining.Uppers.few.Goals as goal

pub loop-at-init : goal.loop-at-init
loop-at-init c = walked_start _ _ _ _ _ c.last-at.ensures c.new-all.ensures.items

pub loop-at-smaller : goal.loop-at-smaller
loop-at-smaller c = place_falls c.args.self.now.signed c.in-Some.place _ _ c.before-at.ensures c.in-Some.is

pub loop-at-preserved : goal.loop-at-preserved
loop-at-preserved c = walked_more _ _ _ _ c.loop-at.invariant c.in-Some.is c.before-at.ensures c.row.ensures c.in_ok-push.ensures.items
