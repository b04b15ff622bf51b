use Rattle.std.proofs.Common.{◌∙◌, sym, ap}
use Rattle.jr_tree.specs.Rows.{parent}
use Rattle.jr_delete.specs.Deleting.{is_field_of}
use Rattle.jr_delete.proofs.Finding.{last_taken, last_kept}
use Rattle.jr_delete.proofs.removal.field_before.Goals as goal
use Rattle.jr_delete.proofs.removal.field_before.Goals.{then-is_field_of, else-is_field_of}

pub loop-at-preserved : goal.loop-at-preserved
loop-at-preserved c = let same = ap (λ d. is_field_of c.args.rows.now d c.loop-at.at) (sym c.parent_at-declaration.ensures) ∙ sym c.is_field_of.ensures in elim c.if-is_field_of.branch [
  | then-is_field_of w ↦ last_taken (is_field_of c.args.rows.now (parent c.args.rows.now c.args.field)) c.loop-at.at _ _ c.loop-at.invariant (same ∙ w.if-is_field_of.true) w.before-is
  | else-is_field_of w ↦ last_kept (is_field_of c.args.rows.now (parent c.args.rows.now c.args.field)) c.loop-at.at _ _ c.loop-at.invariant (same ∙ w.if-is_field_of.false) w.before-is
]
