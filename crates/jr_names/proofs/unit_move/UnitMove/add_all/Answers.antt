use Rattle.std.proofs.Common.{◌∙◌, ap}
use Rattle.jr_draft.specs.Ordering.{order_with}
use Rattle.jr_names.proofs.Moved.{order_so}
use Rattle.jr_names.proofs.unit_move.UnitMove.add_all.Goals as goal

pub returns-clause-ok : goal.returns-clause-ok
returns-clause-ok c = λ ordered room fresh. let m = c.args.self.now.marks.now in
    order_so m c.args.self.now.head c.args.self.now.row c.args.self.now.named.now c.args.self.now.path.now _ c.unit_of.result _ _ (c.unit_of.ensures ordered)
    (c.deref.ensures.value ∙ c.in_ok-order.ensures ordered ∙ ap (λ path. order_with m c.unit_of.result path) c.bytes.ensures) fresh (c.in_ok-add_these.ensures.ok ordered room)
