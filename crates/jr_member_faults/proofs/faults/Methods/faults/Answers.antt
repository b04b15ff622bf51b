use Rattle.std.proofs.Common.{sym, subst}
use Rattle.jr_member_faults.specs.declared.beside.Left.{Left}
use Rattle.jr_member_faults.specs.Methods.{IsLeftAtRow}
use Rattle.jr_member_faults.specs.Nearest.{AreTelling}
use Rattle.jr_member_faults.specs.Views.{rows_of, table_of}
use Rattle.jr_member_faults.proofs.Placed.{left_at_row}
use Rattle.jr_member_faults.proofs.faults.Methods.faults.Goals as goal

pub returns-clause-others : goal.returns-clause-others
returns-clause-others c = c.in_ok-method_faults.ensures.others

pub returns-clause-found : goal.returns-clause-found
returns-clause-found c = λ h. let w = c.args.self.now.redefining.world.now in c.in_ok-method_faults.ensures.found h.can (record {
  over_are = subst (λ xs. AreTelling (rows_of w) (table_of w) c.args.at xs) (sym c.deref.ensures.value) (c.in_ok-over.ensures h.can.right h.uppers_are h.kept_are);
  left_is = subst (λ (l : Left). IsLeftAtRow (rows_of w) (table_of w) c.args.at l) (sym c.left_at-left.ensures) (left_at_row w h.can.right c.args.self.now.lefts.items c.args.at h.lefts_are);
})
