use Rattle.std.proofs.Common.{arith}
use Rattle.std.proofs.lemmas.Bool.{false≢true}
use Rattle.jr_meaning.proofs.Loops.{body_more, bodies_to}
use Rattle.jr_meaning.proofs.keeping.keeps_bodies.Goals as goal

pub loop-body-init : goal.loop-body-init
loop-body-init c = λ le tree m w old new n lt. absurd (omega (arith, lt))

pub loop-body-preserved : goal.loop-body-preserved
loop-body-preserved c = λ le tree m w old new. let test = c.loop-body-test.true in
    body_more c.args.old.now.rows.now c.args.new.now.rows.now m w c.args.near.targets.now c.args.near.loops.now c.args.copy.now c.loop-body.body (c.loop-body.invariant le tree m w old new)
    (c.keeps_body.ensures (omega (arith, le, test)) tree m w old new c.if-not-keeps_body.false)

pub returns-then-not-keeps_body : goal.returns-then-not-keeps_body
returns-then-not-keeps_body c = λ le tree m w old new e. absurd (false≢true e)

pub returns : goal.returns
returns c = λ le tree m w old new e.
    bodies_to c.args.old.now.rows.now c.args.new.now.rows.now m w c.args.near.targets.now c.args.near.loops.now c.args.copy.now c.loop-body.body c.args.count (omega arith) (c.loop-body.invariant le tree m w old new)
