use Rattle.std.proofs.Common.{◌∙◌}
use Rattle.jr_package.proofs.Renamed.{order_same}
use Rattle.jr_package.proofs.repackaging.add_all.Goals as goal

pub returns-clause-ok : goal.returns-clause-ok
returns-clause-ok c = λ ordered these empty. order_same c.args.named.now.marks.now c.args.named.now.table.now c.args.named.now.from.now c.args.to.now _ c.args.moved.now c.args.draft.now _
    (c.as_slice-bytes.ensures.value ∙ c.in_ok-folder.ensures) these empty (c.in_ok-add_all.ensures.ok ordered)
