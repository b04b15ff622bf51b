use Rattle.jr_dispatch.proofs.Linking.{above_rows, overridden_told}
use Rattle.jr_dispatch.proofs.families.add_overridden_from.Goals as goal

pub returns : goal.returns
returns c = λ t h m declared. let p = c.args.methods.under.rows.now in let like = c.in_ok-like.ensures t h m in
    overridden_told p t c.args.at c.args.method _ _ _ _ declared c.deref.ensures.value like (c.in_ok-add_those.ensures t h m (above_rows p t c.args.at c.args.method _ _ c.deref.ensures.value like))
