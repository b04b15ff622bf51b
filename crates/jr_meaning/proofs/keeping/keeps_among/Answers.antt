use Rattle.std.proofs.Common.{◌≡◌, arith, length}
use Rattle.std.proofs.lemmas.Bool.{false≢true}
use Rattle.jr_meaning.proofs.Bodies.{bodies_kept}
use Rattle.jr_meaning.proofs.keeping.keeps_among.Goals as goal

pub returns-in_default : goal.returns-in_default
returns-in_default c = λ near m w change old new copies here there changed e. absurd (false≢true e)

pub returns : goal.returns
returns c = λ near m w change old new copies here there changed e. let all : c.in-Ok.count ≡ length c.args.old.now.rows.now = c.in-Ok.ensures.1 in
    bodies_kept c.args.old.now.rows.now c.args.new.now.rows.now m w change c.args.targets.now c.args.loops.now c.args.copy.now c.in-Ok.count all old.few new.few near copies here there changed
    (c.keeps_bodies.ensures (omega (arith, all)) here m w old new e)
