use Rattle.std.proofs.Common.{◌≡◌, sym, ◌∙◌}
use Rattle.jr_tree.specs.declared.label.Label.TheVariants as is
use Rattle.jr_tree.specs.Rows.{label}
use Rattle.jr_kept.proofs.Begun.{creation_label, if_some}
use Rattle.jr_kept.proofs.creating.created_at.Goals as goal

pub returns : goal.returns
returns c = let p = c.args.old.now.marks.rows.now in let at = c.args.at in
    if_some (label p at ≡ is.New) c.constructed_class.result (creation_label (label p at) (sym c.is_creation.ensures ∙ c.if-not-is_creation.false))
