use Rattle.std.proofs.Common.{arith}
use Rattle.jr_inline.specs.Inlining.{plan_by}
use Rattle.jr_inline.proofs.Stepping.{uses_all, uses_more, uses_start}
use Rattle.jr_inline.proofs.inlining.push_between.Goals as goal

pub loop-at-init : goal.loop-at-init
loop-at-init c = record {
  early = λ lt. omega arith;
  uses = λ ordered. uses_start c.args.marks.now (plan_by c.args.inlining.now) c.args.first c.args.edits.now;
}

pub loop-at-preserved : goal.loop-at-preserved
loop-at-preserved c = record {
  early = λ lt. absurd (omega arith);
  uses = λ ordered. uses_more c.args.marks.now (plan_by c.args.inlining.now) c.args.first c.args.edits.now c.loop-at.at _ _ (omega arith) (c.loop-at.invariant.uses ordered) (c.in_ok-left.ensures ordered);
}

pub returns : goal.returns
returns c = λ ordered. uses_all c.args.marks.now (plan_by c.args.inlining.now) c.args.first c.args.behind c.args.edits.now c.loop-at.at _ (omega arith) (λ le. omega arith) c.loop-at.invariant.early (c.loop-at.invariant.uses ordered)
