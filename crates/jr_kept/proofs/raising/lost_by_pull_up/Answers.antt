use Rattle.std.proofs.Common.{subst, IfSome, ◌⊎◌, inl}
use Rattle.std.proofs.lemmas.Result.{IfOk-weaker}
use Rattle.std.proofs.lemmas.Result.{err_from_is_err_and}
use Rattle.jr_kept.specs.Courses.{HasLarge}
use Rattle.jr_kept.specs.Started.{LeavesStart}
use Rattle.jr_kept.proofs.Large.{only_where}
use Rattle.jr_kept.proofs.raising.lost_by_pull_up.Goals as goal

pub returns-in-Some-clause-only_control : goal.returns-in-Some-clause-only_control
returns-in-Some-clause-only_control c = λ m w seen other keeps free. absurd (free (subst (λ o. IfSome o (λ edge. LeavesStart c.args.old.now.marks.rows.now m c.args.raised)) c.in-Some.is (c.in_ok-edge.ensures.leaves m seen)))

pub returns-in-None-clause-only_control : goal.returns-in-None-clause-only_control
returns-in-None-clause-only_control c = λ m w seen other. IfOk-weaker c.lost_by_moving.result _ _ (λ lost only keeps free. only keeps) (c.lost_by_moving.ensures.only_control m w seen other)

pub returns-in_err-edge-clause-large : goal.returns-in_err-edge-clause-large
returns-in_err-edge-clause-large c = λ m w seen other. let q = err_from_is_err_and c.from_residual.result c.from_residual.ensures.1 in rw (q.1, q.2) (only_where (HasLarge c.args.old.now.marks.rows.now m) (HasLarge c.args.old.now.marks.rows.now m ⊎ HasLarge c.args.locked.now.marks.rows.now w) c.in_err-edge.field-0.0 (λ h. inl h) (c.in_err-edge.ensures.large m seen))
