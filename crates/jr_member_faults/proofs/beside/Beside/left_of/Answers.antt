use Rattle.std.proofs.Common.{◌∙◌, ap₂, ◌||◌}
use Rattle.jr_member_faults.proofs.Lefts.{left_made}
use Rattle.jr_member_faults.proofs.beside.Beside.left_of.Goals as goal

pub returns : goal.returns
returns c = λ h. left_made (c.leaves_some-abstracts.ensures h.right) (c.is_either-results.ensures ∙ ap₂ (λ x y. x || y) (c.in_ok-clashes.ensures h) (c.in_ok-unfit.ensures h)) (c.in_ok-access.ensures h) (c.in_ok-statics.ensures h) (c.in_ok-throws.ensures h)
