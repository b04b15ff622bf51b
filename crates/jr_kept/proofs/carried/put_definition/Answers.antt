use Rattle.std.proofs.Common.{◌∙◌, ap, ◌++◌, ◌∷◌, []}
use Rattle.jr_kept.specs.Carried.{plain_step}
use Rattle.jr_kept.proofs.Carrying.{defined_before}
use Rattle.jr_kept.proofs.Leaving.{defined_only}
use Rattle.jr_kept.proofs.carried.put_definition.Goals as goal

pub returns-clause-every : goal.returns-clause-every
returns-clause-every c = let made = c.args.made.now in let from = c.in_ok-from.from in let to = c.args.to in
    defined_before made _ from to c.args.row c.args.local (c.in_ok-put_step.ensures.points ∙ c.in_ok-from.ensures.points) (c.in_ok-put_step.ensures.steps ∙ ap (λ ss. ss ++ plain_step from to ∷ []) c.in_ok-from.ensures.steps) c.in_ok-from.ensures.number

pub returns-clause-only : goal.returns-clause-only
returns-clause-only c = let made = c.args.made.now in let from = c.in_ok-from.from in let to = c.args.to in
    defined_only made c.put_step.new.made from to c.args.row c.args.local (c.in_ok-put_step.ensures.points ∙ c.in_ok-from.ensures.points) (c.in_ok-put_step.ensures.steps ∙ ap (λ ss. ss ++ plain_step from to ∷ []) c.in_ok-from.ensures.steps) c.in_ok-from.ensures.number
