use Rattle.std.proofs.Common.{◌∙◌, ap, subst}
use Rattle.jr_change.specs.declared.change.Course.TheVariants as course
use Rattle.jr_draft.specs.Drafting.{IsFinished}
use Rattle.jr_draft.specs.Packages.{path_of_type}
use Rattle.jr_names.specs.Moving.{with_path}
use Rattle.jr_names.proofs.moving.moved_whole.Goals as goal

pub returns-clause-ok : goal.returns-clause-ok
returns-clause-ok c = λ ordered room. subst (λ drafted. IsFinished drafted course.Same c.finish.result) (c.in_ok-add_all.ensures.ok ordered room c.in_ok-draft.ensures
    ∙ ap (λ path. with_path c.args.marks.now c.args.of.now.head c.args.of.now.row c.args.of.now.named.now path) (c.in_ok-path.ensures ∙ ap (λ name. path_of_type c.args.of.now.named.now name) c.name_at.ensures)) c.finish.ensures
