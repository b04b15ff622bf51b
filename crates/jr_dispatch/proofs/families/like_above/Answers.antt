use Rattle.jr_dispatch.proofs.Linking.{above_listed}
use Rattle.jr_dispatch.proofs.families.like_above.Goals as goal

pub returns : goal.returns
returns c = λ t h m. above_listed c.args.methods.under.rows.now t h.supers.well.headed c.args.at c.args.method _ _ _ m c.deref.ensures.value (c.in_ok-overs.ensures t h.supers).has (c.in_ok-all.ensures t h m)
