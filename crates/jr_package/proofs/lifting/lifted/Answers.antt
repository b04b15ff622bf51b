use Rattle.std.proofs.Common.{◌∙◌}
use Rattle.jr_package.proofs.Lifted.{lifted_as}
use Rattle.jr_package.proofs.lifting.lifted.Goals as goal

pub returns-clause-ok : goal.returns-clause-ok
returns-clause-ok c = lifted_as c.args.marks.now c.args.row _ _ _ _ _ c.extent-span.ensures c.head_over-head.ensures.head (λ ordered. c.as_slice-bytes.ensures.value ∙ c.in_ok-named.ensures (c.head_over-head.ensures.declared ordered))
    (λ ordered. c.as_slice-text.ensures.value ∙ c.in_ok-declaration.ensures ordered) c.to_own_file.ensures.ok
