use Rattle.std.proofs.Common.{◌≡◌, inl, inr, sym, ◌∙◌, refl, ap, subst, ⊎_elim, arith, false, slice_get}
use Rattle.std.specs.List.{Contains}
use Rattle.std.proofs.lemmas.Bool.{cases_lt}
use Rattle.jr_flow.specs.Reached.{steps_of}
use Rattle.jr_kept.specs.Carried.{is_exit_at}
use Rattle.jr_kept.proofs.carried.put_exits.Goals as goal

pub loop-number-init : goal.loop-number-init
loop-number-init c = (refl, λ i j t h. h, λ k lt. absurd (omega (arith, lt)), λ i j t h. inl h)

pub loop-number-preserved : goal.loop-number-preserved
loop-number-preserved c = let inv = c.loop-number.invariant in let points = c.args.points.now in let n = c.loop-number.number in let new = c.put_step_if.new.made in
    let here : c.is_exit.result ≡ is_exit_at c.args.method c.args.is_throw (slice_get points n) = c.is_exit.ensures ∙ ap (is_exit_at c.args.method c.args.is_throw) c.point_at-point.ensures in (
      c.in_ok-put_step_if.ensures.points ∙ inv.0,
      λ i j t h. c.in_ok-put_step_if.ensures.kept i j t (inv.1 i j t h),
      λ k lt exits. ⊎_elim (λ early. c.in_ok-put_step_if.ensures.kept c.args.hub k false (inv.2 k early exits))
          (λ past. let same : n ≡ k = omega (arith, lt, past) in subst (λ m. Contains (steps_of new) (c.args.hub, m, false)) same (c.in_ok-put_step_if.ensures.here (here ∙ ap (λ m. is_exit_at c.args.method c.args.is_throw (slice_get points m)) same ∙ exits)))
          (cases_lt k n),
      λ i j t h. ⊎_elim (λ early. inv.3 i j t early)
          (λ o. inr (o.0, ap (λ m. is_exit_at c.args.method c.args.is_throw (slice_get points m)) o.1 ∙ sym here ∙ o.2)) (c.in_ok-put_step_if.ensures.only i j t h),
    )

pub returns-clause-points : goal.returns-clause-points
returns-clause-points c = c.loop-number.invariant.0

pub returns-clause-kept : goal.returns-clause-kept
returns-clause-kept c = c.loop-number.invariant.1

pub returns-clause-here : goal.returns-clause-here
returns-clause-here c = λ k lt exits. let past = c.loop-number-test.false in let size = c.in_ok-count.ensures in c.loop-number.invariant.2 k (omega (arith, lt, past, size)) exits

pub returns-clause-only : goal.returns-clause-only
returns-clause-only c = c.loop-number.invariant.3
