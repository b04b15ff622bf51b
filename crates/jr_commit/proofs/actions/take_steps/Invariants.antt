use Rattle.std.proofs.Common.{◌≤◌}
use Rattle.jr_store.specs.Image.{Tells, Follows, LeavesOnly}
use Rattle.jr_commit.specs.SidesAt.{After, ChangesOnlyOn}
use Rattle.jr_commit.specs.Steps.{sides_of}
use Rattle.jr_commit.proofs.Going.{Going}
use Rattle.jr_commit.proofs.actions.take_steps.Given as goal

abbrev pub invariant-loop-step : goal.invariant-loop-step
invariant-loop-step g l =
    let Store = g.S.Store in
    let first = l.fn.store in
    let all = sides_of l.steps in
    record {
      told : Tells (Store.files first) (Store.files l.store) (Going l.steps l.step-index);
      crash : Follows (ChangesOnlyOn all) (Store.may_leave first) (Store.may_leave l.store);
      any_moment : LeavesOnly Store.moment Store.left_since first l.store (After (ChangesOnlyOn all) (Store.may_leave first));
      cause : Store.faults first ≤ Store.faults l.store;
    }
