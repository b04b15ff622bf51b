use Rattle.std.proofs.Common.{◌++◌, ◌∙◌, ap₂}
use Rattle.jr_kept.specs.Spliced.{copies}
use Rattle.jr_kept.proofs.joined.joined_points.Goals as goal

pub returns : goal.returns
returns c = c.in_ok-push_copies.ensures ∙ ap₂ (λ xs ps. xs ++ copies c.args.count ps) (c.in_ok-extend_from_slice.ensures.items ∙ ap₂ (λ xs ys. xs ++ ys) c.new-all.ensures.items c.as_slice.ensures.value) c.as_slice-2.ensures.value
