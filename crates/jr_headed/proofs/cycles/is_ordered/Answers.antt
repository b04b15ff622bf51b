use Rattle.jr_headed.proofs.Placed.{not_ordered, all_ordered}
use Rattle.jr_headed.proofs.cycles.is_ordered.Goals as goal

pub returns-then-not-branch : goal.returns-then-not-branch
returns-then-not-branch c = not_ordered c.args.rows.now c.args.supers.now c.args.order.now _ _ (c.in_ok-are_behind.ensures c.in_ok-passed.ensures) c.if-not-branch.true

pub returns : goal.returns
returns c = let counted = c.in-Ok.ensures in
    all_ordered c.args.rows.now c.args.supers.now c.args.order.now _ _ _ c.in-Ok.end counted.1 (c.in_ok-are_behind.ensures c.in_ok-passed.ensures) c.if-not-branch.false c.have_passed.ensures
