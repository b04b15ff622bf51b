use Rattle.std.proofs.Common.{◌∙◌, sym, arith, nat_le, ◌&&◌}
use Rattle.jr_marks.specs.Places.{is_named_by}
use Rattle.jr_marks.proofs.Firsts.{first_none, first_some}
use Rattle.jr_marks.proofs.Cuts.{from_passes, more_fails}
use Rattle.jr_marks.proofs.marks.Marks.first_named.Goals as goal

pub returns-then-is_named_by : goal.returns-then-is_named_by
returns-then-is_named_by c = sym (first_some (λ k. nat_le c.args.start k && is_named_by c.args.self.now c.args.token k) c.args.end c.loop-row.row (omega arith)
    (from_passes c.args.start c.loop-row.row _ (omega arith) (sym c.is_named_by.ensures ∙ c.if-is_named_by.true)) c.loop-row.invariant)

pub returns : goal.returns
returns c = sym (first_none (λ k. nat_le c.args.start k && is_named_by c.args.self.now c.args.token k) c.args.end (λ k lt. c.loop-row.invariant k (omega arith)))

pub loop-row-preserved : goal.loop-row-preserved
loop-row-preserved c = more_fails (λ k. nat_le c.args.start k) (is_named_by c.args.self.now c.args.token) c.loop-row.row c.loop-row.invariant (sym c.is_named_by.ensures ∙ c.if-is_named_by.false)
