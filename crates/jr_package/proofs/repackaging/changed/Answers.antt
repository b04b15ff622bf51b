use Rattle.std.proofs.Common.{◌∙◌, ap, subst}
use Rattle.jr_change.specs.declared.change.Course.TheVariants as course
use Rattle.jr_draft.specs.Drafting.{IsFinished, with_naming}
use Rattle.jr_package.proofs.repackaging.changed.Goals as goal

pub returns-clause-ok : goal.returns-clause-ok
returns-clause-ok c = λ ordered these. record {
  naming = c.in_ok-naming.naming;
  name = c.in_ok-naming.ensures.name;
  rows = c.in_ok-naming.ensures.rows ordered;
  finished = subst (λ d. IsFinished d course.Same c.finish.result) (c.in_ok-name.ensures ∙ ap (λ d. with_naming d c.in_ok-naming.naming) (c.in_ok-add_all.ensures.ok ordered these c.in_ok-draft.ensures)) c.finish.ensures;
}
