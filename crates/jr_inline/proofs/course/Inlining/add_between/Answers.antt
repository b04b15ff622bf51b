use Rattle.std.proofs.Common.{arith}
use Rattle.jr_inline.specs.Inlining.{plan_by}
use Rattle.jr_inline.proofs.Stepping.{rows_all, rows_more, rows_start}
use Rattle.jr_inline.proofs.course.Inlining.add_between.Goals as goal

pub loop-at-init : goal.loop-at-init
loop-at-init c = record {
  early = λ lt. omega arith;
  rows = rows_start (plan_by c.args.self.now) c.args.first c.args.draft.now;
}

pub loop-at-preserved : goal.loop-at-preserved
loop-at-preserved c = record {
  early = λ lt. absurd (omega arith);
  rows = rows_more (plan_by c.args.self.now) c.args.first c.args.draft.now c.loop-at.at _ _ (omega arith) c.loop-at.invariant.rows c.in_ok-kept.ensures;
}

pub returns : goal.returns
returns c = rows_all (plan_by c.args.self.now) c.args.first c.args.behind c.args.draft.now c.loop-at.at _ _ (omega arith) (λ le. omega arith) c.loop-at.invariant.early c.loop-at.invariant.rows c.in_ok-copy.ensures
