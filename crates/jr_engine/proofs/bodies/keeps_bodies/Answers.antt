use Rattle.jr_engine.proofs.Stepping.{bodies_kept}
use Rattle.jr_engine.proofs.bodies.keeps_bodies.Goals as goal

pub returns : goal.returns
returns c = bodies_kept c.args.asked c.args.locked.now c.view-old.result c.view-new.result c.meant_by.result c.meant_by-2.result c.deref.result.now c.keeps_meaning.result c.requires c.view-old.ensures.all c.view-new.ensures.all
    c.meant_by.ensures.rows c.meant_by-2.ensures.rows c.meant_by.ensures.meant c.meant_by-2.ensures.meant c.deref.ensures.value c.keeps_meaning.ensures
