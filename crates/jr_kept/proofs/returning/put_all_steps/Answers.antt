use Rattle.std.proofs.Common.{◌≡◌, subst, arith, length, slice_get}
use Rattle.jr_kept.specs.Ordered.{Tells}
use Rattle.jr_kept.specs.Returned.{LeadsOut, LeadOutTo}
use Rattle.jr_kept.proofs.Telling.{tells_still}
use Rattle.jr_kept.proofs.Each.{each_told}
use Rattle.jr_kept.proofs.returning.put_all_steps.Goals as goal

pub loop-number-init : goal.loop-number-init
loop-number-init c = tells_still c.args.lost.now (LeadOutTo c.args.body c.args.moved.now c.args.points.now c.args.steps.now 0) (λ k lt. absurd (omega (arith, lt)))

pub loop-number-preserved : goal.loop-number-preserved
loop-number-preserved c = let body = c.args.body in let moved = c.args.moved.now in let points = c.args.points.now in let steps = c.args.steps.now in
    each_told (λ k. LeadsOut body moved points (slice_get steps k)) c.loop-number.number c.args.lost.now c.loop-number.lost c.put_step.new.lost c.loop-number.invariant
    (subst (λ o. Tells c.loop-number.lost c.put_step.new.lost (LeadsOut body moved points o)) c.step_at.ensures c.put_step.ensures)

pub returns : goal.returns
returns c = let past = c.loop-number-test.false in let near = c.loop-number.auto.number-end in
    let all : c.loop-number.number ≡ length c.args.steps.now = omega (arith, past, near) in
    subst (λ n. Tells c.args.lost.now c.loop-number.lost (LeadOutTo c.args.body c.args.moved.now c.args.points.now c.args.steps.now n)) all c.loop-number.invariant
