use Rattle.std.proofs.Common.{◌≡◌, ◌∙◌, ap, subst, arith, length}
use Rattle.jr_kept.specs.Ordered.{Tells}
use Rattle.jr_kept.specs.Returned.{moved_at, AreFreeTo}
use Rattle.jr_kept.proofs.Telling.{tells_still}
use Rattle.jr_kept.proofs.Moved.{free_told}
use Rattle.jr_kept.proofs.returning.put_all_pending.Goals as goal

pub loop-number-init : goal.loop-number-init
loop-number-init c = tells_still c.args.lost.now (AreFreeTo c.args.names.now.rows.now c.args.names.now.body c.args.moved.now c.args.points.now 0) (λ k row lt. absurd (omega (arith, lt)))

pub loop-number-preserved : goal.loop-number-preserved
loop-number-preserved c = let names = c.args.names.now in
    free_told names.rows.now names.body c.args.moved.now c.args.points.now c.loop-number.number c.moved_at-row.result c.args.lost.now c.loop-number.lost c.put_pending.new.lost (c.moved_at-row.ensures ∙ ap (moved_at names.body c.args.moved.now) c.point_at.ensures)
    c.loop-number.invariant c.put_pending.ensures

pub returns : goal.returns
returns c = let names = c.args.names.now in let past = c.loop-number-test.false in let near = c.loop-number.auto.number-end in
    let all : c.loop-number.number ≡ length c.args.points.now = omega (arith, past, near) in
    subst (λ n. Tells c.args.lost.now c.loop-number.lost (AreFreeTo names.rows.now names.body c.args.moved.now c.args.points.now n)) all c.loop-number.invariant
