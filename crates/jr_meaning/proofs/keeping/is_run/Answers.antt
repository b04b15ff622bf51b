use Rattle.std.proofs.Common.{sym, ◌∙◌, ap, arith, ◌+◌, ◌-◌}
use Rattle.jr_meaning.proofs.keeping.is_run.Goals as goal

pub returns-then-not-follows : goal.returns-then-not-follows
returns-then-not-follows c = λ run.
    let here = run c.loop-at.at c.loop-at.invariant c.loop-at-test.true in
    let same = c.row_in.ensures in
    let less = here.1 in
    sym c.if-not-follows.true ∙ c.follows.ensures (same ∙ (here.0 ∙ sym (ap (λ k. k + (c.loop-at.at - c.args.range.first)) c.row_in-first.ensures))) (omega (arith, same, less))
