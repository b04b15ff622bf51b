use Rattle.jr_dispatch.proofs.Linking.{members_told}
use Rattle.jr_dispatch.proofs.families.add_members.Goals as goal

pub returns : goal.returns
returns c = λ t h m. members_told c.args.world.now.under.rows.now t h.world_is.seen.above.well.headed c.args.over c.args.method _ _ _ _ c.deref.ensures.value (c.in_ok-all.ensures t h m) c.in_ok-join_first.ensures
