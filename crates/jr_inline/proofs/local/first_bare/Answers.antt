use Rattle.std.proofs.Common.{◌∙◌, sym, arith, nat_le, ◌&&◌}
use Rattle.jr_marks.proofs.Firsts.{first_none, first_some}
use Rattle.jr_marks.proofs.Cuts.{from_passes, more_fails}
use Rattle.jr_inline.specs.Inlinable.{is_bare}
use Rattle.jr_inline.proofs.local.first_bare.Goals as goal

pub loop-at-preserved : goal.loop-at-preserved
loop-at-preserved c = more_fails (λ k. nat_le c.args.first k) (λ k. is_bare c.args.rows.now k) c.loop-at.at c.loop-at.invariant (sym c.is_bare.ensures ∙ c.if-is_bare.false)

pub returns-then-is_bare : goal.returns-then-is_bare
returns-then-is_bare c = sym (first_some (λ k. nat_le c.args.first k && is_bare c.args.rows.now k) c.args.behind c.loop-at.at (omega arith)
    (from_passes c.args.first c.loop-at.at _ (omega arith) (sym c.is_bare.ensures ∙ c.if-is_bare.true)) c.loop-at.invariant)

pub returns : goal.returns
returns c = sym (first_none (λ k. nat_le c.args.first k && is_bare c.args.rows.now k) c.args.behind (λ k lt. c.loop-at.invariant k (omega arith)))
