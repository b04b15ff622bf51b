use Rattle.std.proofs.Common.{◌∙◌, sym, arith, nat_le}
use Rattle.jr_marks.proofs.Cuts.{more_fails}
use Rattle.jr_names.specs.Moving.{is_other_type}
use Rattle.jr_names.proofs.Moved.{others_now, others_end}
use Rattle.jr_names.proofs.moving.has_others.Goals as goal

pub loop-at-preserved : goal.loop-at-preserved
loop-at-preserved c = more_fails (λ k. nat_le c.args.unit k) (λ k. is_other_type c.args.rows.now c.args.moved k) c.loop-at.at c.loop-at.invariant (sym c.is_other_type.ensures ∙ c.if-is_other_type.false)

pub returns-then-is_other_type : goal.returns-then-is_other_type
returns-then-is_other_type c = λ fits. let e = c.end_at-at-end.ensures fits in others_now c.args.rows.now c.args.moved c.args.unit c.loop-at.at (omega arith) (omega arith) (sym c.is_other_type.ensures ∙ c.if-is_other_type.true)

pub returns : goal.returns
returns c = λ fits. let e = c.end_at-at-end.ensures fits in others_end c.args.rows.now c.args.moved c.args.unit (λ k lt. c.loop-at.invariant k (omega arith))
