use Rattle.jr_dispatch.proofs.Linking.{links_below, family_told}
use Rattle.jr_dispatch.proofs.families.family.Goals as goal

pub returns : goal.returns
returns c = λ t h m. let p = c.args.world.now.under.rows.now in let headed = h.world_is.seen.above.well.headed in let links = c.in_ok-links.ensures t h m in
    family_told p t headed c.args.method _ links _ _ _ (c.in_ok-all.ensures (links_below p t headed c.args.method _ links)) c.deref_mut.ensures.value c.in_ok-out.ensures
