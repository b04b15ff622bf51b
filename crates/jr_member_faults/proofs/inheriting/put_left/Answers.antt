use Rattle.jr_member_faults.proofs.Placed.{left_put}
use Rattle.jr_member_faults.proofs.inheriting.put_left.Goals as goal

pub returns : goal.returns
returns c = λ h can. left_put c.args.beside.world.now h.right c.args.beside.over _ _ _ _ _ _ _ _ _ (c.in_ok-left.ensures h can.ready) (c.in_ok-is_unfound.ensures h.right can.type can.are can.stamped) c.closed-told.ensures c.set_left.ensures
