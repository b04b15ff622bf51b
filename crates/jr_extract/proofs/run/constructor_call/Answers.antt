use Rattle.std.proofs.Common.{◌∙◌, sym, arith, nat_le, ◌&&◌}
use Rattle.jr_tree.specs.Rows.{label}
use Rattle.jr_marks.proofs.Firsts.{first_none, first_some}
use Rattle.jr_marks.proofs.Cuts.{from_passes, more_fails}
use Rattle.jr_extract.specs.Running.{calls_constructor}
use Rattle.jr_extract.proofs.run.constructor_call.Goals as goal

pub loop-at-preserved : goal.loop-at-preserved
loop-at-preserved c = more_fails (λ k. nat_le c.args.range.first k) (λ k. calls_constructor (label c.args.rows.now k)) c.loop-at.at c.loop-at.invariant (sym c.calls_constructor.ensures ∙ c.if-calls_constructor.false)

pub returns-then-calls_constructor : goal.returns-then-calls_constructor
returns-then-calls_constructor c = sym (first_some (λ k. nat_le c.args.range.first k && calls_constructor (label c.args.rows.now k)) c.args.range.end c.loop-at.at (omega arith)
    (from_passes c.args.range.first c.loop-at.at _ (omega arith) (sym c.calls_constructor.ensures ∙ c.if-calls_constructor.true)) c.loop-at.invariant)

pub returns : goal.returns
returns c = sym (first_none (λ k. nat_le c.args.range.first k && calls_constructor (label c.args.rows.now k)) c.args.range.end (λ k lt. c.loop-at.invariant k (omega arith)))
