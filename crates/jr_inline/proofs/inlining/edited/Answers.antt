use Rattle.jr_inline.specs.Inlining.{plan_by}
use Rattle.jr_inline.proofs.Answering.{edited_by}
use Rattle.jr_inline.proofs.inlining.edited.Goals as goal

pub returns : goal.returns
returns c = λ ordered. edited_by c.args.marks.now (plan_by c.args.inlining.now) _ _ _ (c.in_ok-edits.ensures ordered) c.in_ok-push_removal.ensures (c.in_ok-push_uses.ensures ordered)
