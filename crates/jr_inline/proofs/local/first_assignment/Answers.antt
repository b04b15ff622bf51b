use Rattle.std.proofs.Common.{◌∙◌, sym, arith, nat_le, ◌&&◌}
use Rattle.jr_marks.proofs.Firsts.{first_none, first_some}
use Rattle.jr_marks.proofs.Cuts.{from_passes, more_fails}
use Rattle.jr_inline.specs.Inlinable.{assigns_to}
use Rattle.jr_inline.proofs.local.first_assignment.Goals as goal

pub loop-at-preserved : goal.loop-at-preserved
loop-at-preserved c = more_fails (λ k. nat_le c.args.first k) (λ k. assigns_to c.args.rows.now c.args.table.now c.args.declared k) c.loop-at.at c.loop-at.invariant (sym c.assigns_to.ensures ∙ c.if-assigns_to.false)

pub returns-then-assigns_to : goal.returns-then-assigns_to
returns-then-assigns_to c = sym (first_some (λ k. nat_le c.args.first k && assigns_to c.args.rows.now c.args.table.now c.args.declared k) c.args.behind c.loop-at.at (omega arith)
    (from_passes c.args.first c.loop-at.at _ (omega arith) (sym c.assigns_to.ensures ∙ c.if-assigns_to.true)) c.loop-at.invariant)

pub returns : goal.returns
returns c = sym (first_none (λ k. nat_le c.args.first k && assigns_to c.args.rows.now c.args.table.now c.args.declared k) c.args.behind (λ k lt. c.loop-at.invariant k (omega arith)))
