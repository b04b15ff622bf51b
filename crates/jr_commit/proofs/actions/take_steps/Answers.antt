use Rattle.std.proofs.Common.{arith}
use Rattle.jr_commit.specs.SidesAt.{After, ChangesOnlyOn}
use Rattle.jr_commit.specs.Steps.{sides_of}
use Rattle.jr_commit.proofs.Going.{told_step, told_next, crash_step}
use Rattle.jr_commit.proofs.Moments.{goes_on}
use Rattle.jr_commit.proofs.actions.take_steps.Goals as goal

pub returns-in_err-take_step-clause-told : goal.returns-in_err-take_step-clause-told
returns-in_err-take_step-clause-told g c =
    told_step c.args.steps.now c.loop-step.step-index c.step-item.result c.loop-step-test.true c.step-item.is _ _ _ c.loop-step.invariant.told c.take_step.ensures.told

pub returns-in_err-take_step-clause-crash : goal.returns-in_err-take_step-clause-crash
returns-in_err-take_step-clause-crash g c =
    crash_step c.args.steps.now c.loop-step.step-index c.step-item.result c.loop-step-test.true c.step-item.is (g.S.Store.may_leave c.args.store.now) (g.S.Store.may_leave c.loop-step.store) (g.S.Store.may_leave c.take_step.new.store) c.loop-step.invariant.crash c.take_step.ensures.crash

pub returns-in_err-take_step-clause-any_moment : goal.returns-in_err-take_step-clause-any_moment
returns-in_err-take_step-clause-any_moment g c =
    let S = g.S.Store in
    goes_on S.moment S.left_since c.args.store.now c.loop-step.store c.take_step.new.store (After (ChangesOnlyOn (sides_of c.args.steps.now)) (S.may_leave c.args.store.now)) (S.may_leave c.take_step.new.store)
    c.loop-step.invariant.any_moment c.take_step.ensures.time (returns-in_err-take_step-clause-crash g c)

pub loop-step-preserved : goal.loop-step-preserved
loop-step-preserved g c =
    let S = g.S.Store in
    let left = crash_step c.args.steps.now c.loop-step.step-index c.step-item.result c.loop-step-test.true c.step-item.is (S.may_leave c.args.store.now) (S.may_leave c.loop-step.store) (S.may_leave c.take_step.new.store) c.loop-step.invariant.crash c.take_step.ensures.crash in
    record {
      told = told_next c.args.steps.now c.loop-step.step-index c.step-item.result c.loop-step-test.true c.step-item.is _ _ _ c.loop-step.invariant.told c.in_ok-take_step.ensures.taken;
      crash = left;
      any_moment = goes_on S.moment S.left_since c.args.store.now c.loop-step.store c.take_step.new.store (After (ChangesOnlyOn (sides_of c.args.steps.now)) (S.may_leave c.args.store.now)) (S.may_leave c.take_step.new.store)
          c.loop-step.invariant.any_moment c.take_step.ensures.time left;
      cause = omega (arith, c.loop-step.invariant.cause, c.take_step.ensures.cause.later);
    }
