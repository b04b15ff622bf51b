use Rattle.std.proofs.Common.{inl, inr, ⊎_elim, sym, ap, ℕ, Bool}
use Rattle.jr_kept.proofs.Carrying.{steps_still, step_now}
use Rattle.jr_kept.proofs.Leaving.{step_before}
use Rattle.jr_kept.proofs.carried.put_step_if.Goals as goal

pub returns-in_ok-put_step-clause-kept : goal.returns-in_ok-put_step-clause-kept
returns-in_ok-put_step-clause-kept c = steps_still c.args.made.now.steps.items _ _ c.in_ok-put_step.ensures.steps

pub returns-in_ok-put_step-clause-here : goal.returns-in_ok-put_step-clause-here
returns-in_ok-put_step-clause-here c = λ is. step_now c.args.made.now.steps.items _ _ c.in_ok-put_step.ensures.steps

pub returns-in_ok-put_step-clause-only : goal.returns-in_ok-put_step-clause-only
returns-in_ok-put_step-clause-only c = λ i j t h. ⊎_elim (λ early. inl early) (λ same. inr (sym (ap (λ (x : ℕ × ℕ × Bool). x.0) same), sym (ap (λ (x : ℕ × ℕ × Bool). x.1) same), c.if-is_such.true))
    (step_before c.args.made.now.steps.items _ _ c.in_ok-put_step.ensures.steps (i, j, t) h)

pub returns-else-is_such-clause-only : goal.returns-else-is_such-clause-only
returns-else-is_such-clause-only c = λ i j t h. inl h
