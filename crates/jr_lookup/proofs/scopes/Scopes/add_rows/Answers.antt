use Rattle.std.proofs.Common.{arith}
use Rattle.jr_lookup.proofs.Scoping.{scopes_end, tops_end}
use Rattle.jr_lookup.proofs.scopes.Scopes.add_rows.Goals as goal

pub loop-at-init : goal.loop-at-init
loop-at-init c = (λ placed h. h, λ placed h. h)

pub loop-at-preserved : goal.loop-at-preserved
loop-at-preserved c = (
  λ placed h. c.in_ok-add_row.ensures.scopes placed (omega arith) (omega arith) (c.loop-at.invariant.0 placed h),
  λ placed h. c.in_ok-add_row.ensures.tops placed (omega arith) (c.loop-at.invariant.1 placed h),
)

pub returns-clause-scopes : goal.returns-clause-scopes
returns-clause-scopes c = λ placed h. scopes_end c.args.rows.now c.loop-at.at _ (omega arith) (c.loop-at.invariant.0 placed h)

pub returns-clause-tops : goal.returns-clause-tops
returns-clause-tops c = λ placed h. tops_end c.args.rows.now c.args.places.now c.loop-at.at _ (omega arith) (c.loop-at.invariant.1 placed h)
