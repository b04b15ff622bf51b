use Rattle.std.proofs.Common.{◌∙◌, ap, ◌++◌, ◌∷◌, []}
use Rattle.jr_kept.specs.Carried.{plain_step}
use Rattle.jr_kept.proofs.Carrying.{used_after}
use Rattle.jr_kept.proofs.Leaving.{used_only}
use Rattle.jr_kept.proofs.carried.put_use.Goals as goal

pub returns-clause-every : goal.returns-clause-every
returns-clause-every c = let made = c.args.made.now in let from = c.args.from in let to = c.in_ok-to.to in
    used_after made _ from to c.args.local (c.in_ok-put_step.ensures.points ∙ c.in_ok-to.ensures.points) (c.in_ok-put_step.ensures.steps ∙ ap (λ ss. ss ++ plain_step from to ∷ []) c.in_ok-to.ensures.steps) c.in_ok-to.ensures.number

pub returns-clause-only : goal.returns-clause-only
returns-clause-only c = let made = c.args.made.now in let from = c.args.from in let to = c.in_ok-to.to in
    used_only made c.put_step.new.made from to (c.in_ok-put_step.ensures.steps ∙ ap (λ ss. ss ++ plain_step from to ∷ []) c.in_ok-to.ensures.steps) c.in_ok-to.ensures.number
